-- How many deliveries are still possible, at the most, with S sessions, M items and n messages on their way. Each cost is the number of deliveries that one thing can still give rise to.
use Rattle.std.specs.Prelude.{◌*◌, ◌+◌, ℕ}

-- a resend: its own delivery, and for each initiator a probe to an item and on to a session
unfoldable pub resend_cost : ℕ → ℕ
resend_cost S = 2 * S + 1

-- a release or a rebroadcast: its own delivery, a grant, and a probe and a resend for each session in the queue
unfoldable pub queue_cost : ℕ → ℕ
queue_cost S = S * (resend_cost S + 1) + 2

-- the probes that a session can still store: for each initiator one junior after the other, each of them sent to an item and on to a session
unfoldable pub store_cost : ℕ → ℕ
store_cost S = S * (2 * S)

-- a release or a rebroadcast to every item that a session holds
unfoldable pub items_cost : ℕ → ℕ → ℕ
items_cost S M = M * queue_cost S

-- a clean at a session: the rebroadcasts, the probes that the session can store again, and its own delivery, a withdraw and the answer, with one to spare
unfoldable pub clean_cost : ℕ → ℕ → ℕ
clean_cost S M = items_cost S M + store_cost S + 4

-- a clean on its way past one wait: at the item it does what a rebroadcast does
unfoldable pub hop_cost : ℕ → ℕ → ℕ
hop_cost S M = clean_cost S M + queue_cost S

-- a session that waits can become a victim: its stored probes are cleared, its clean goes round a cycle of at most S waits, and in the end it releases what it holds
unfoldable pub wait_cost : ℕ → ℕ → ℕ
wait_cost S M = hop_cost S M * S + store_cost S + items_cost S M

-- any message: a clean with S waits left costs most
unfoldable pub message_cost : ℕ → ℕ → ℕ
message_cost S M = hop_cost S M * S + hop_cost S M

-- all sessions, and all messages on their way
unfoldable pub delivery_bound : ℕ → ℕ → ℕ → ℕ
delivery_bound S M n = S * (wait_cost S M + store_cost S) + n * message_cost S M
