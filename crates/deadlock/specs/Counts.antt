-- Messages counted: by kind, by victim, by initiator, and by what stands behind them.
use Rattle.std.specs.Prelude.{cond, not, [], ◌∷◌, List, ◌+◌, suc, zero, ℕ, eqb}
use Rattle.deadlock.specs.Lists.{bit}
use Rattle.deadlock.specs.Machine.{abort, clean, down, grant, Message, probe, rebroadcast, release, request, resend, Sends, up, withdraw, withdrawn}
use Rattle.message.specs.Kind

-- ---- messages by kind
-- the number of a message's kind
abbrev pub kind_of : Message → ℕ
kind_of (up request) = Kind.request
kind_of (up release) = Kind.release
kind_of (up rebroadcast) = Kind.rebroadcast
kind_of (up withdraw) = Kind.withdraw
kind_of (down grant) = Kind.grant
kind_of (down resend) = Kind.resend
kind_of (down withdrawn) = Kind.withdrawn
kind_of (probe i j) = Kind.probe
kind_of (clean v i) = Kind.clean
kind_of (abort v i) = Kind.abort

unfoldable pub count_kind : ℕ → List Message → ℕ
count_kind k [] = 0
count_kind k (m ∷ ms) = bit (eqb (kind_of m) k) + count_kind k ms

-- how many of kind b stand behind the first of kind a
unfoldable pub count_behind : ℕ → ℕ → List Message → ℕ
count_behind a b [] = 0
count_behind a b (m ∷ ms) = cond (eqb (kind_of m) a) (count_kind b ms) (count_behind a b ms)

-- what is sent to a, in order
unfoldable pub sent_to : ℕ → Sends → List Message
sent_to a [] = []
sent_to a (p ∷ l) = cond (eqb a p.0) (p.1 ∷ sent_to a l) (sent_to a l)

-- ---- messages one by one
-- every element of a list
module _ {A : Type 0} (Q : A → Type 0) where
  pub data Every : List A → Type 0 where
    every-nil : Every []
    every-cons : {a : A} {l : List A} → Q a → Every l → Every (a ∷ l)

-- each message together with what stands behind it
module _ (Q : Message → List Message → Type 0) where
  pub data EachBehind : List Message → Type 0 where
    behind-nil : EachBehind []
    behind-cons : {m : Message} {q : List Message} → Q m q → EachBehind q → EachBehind (m ∷ q)

-- J i j if the message is a probe (i, j); nothing of the other kinds
abbrev pub OfProbe : (ℕ → ℕ → Type 0) → Message → Type 0
OfProbe J (up m) = Unit {0}
OfProbe J (down m) = Unit {0}
OfProbe J (probe i j) = J i j
OfProbe J (clean v i) = Unit {0}
OfProbe J (abort v i) = Unit {0}

-- what stands behind the first request
unfoldable pub behind_request : List Message → List Message
behind_request [] = []
behind_request (m ∷ q) = cond (eqb (kind_of m) Kind.request) q (behind_request q)

-- ---- cleans
-- 1 for a clean of victim v, else 0
abbrev pub clean_of : ℕ → Message → ℕ
clean_of v (up m) = 0
clean_of v (down m) = 0
clean_of v (probe i j) = 0
clean_of v (clean a b) = bit (eqb a v)
clean_of v (abort a b) = 0

unfoldable pub cleans_of : ℕ → List Message → ℕ
cleans_of v [] = 0
cleans_of v (m ∷ q) = clean_of v m + cleans_of v q

-- the same among what is sent
unfoldable pub cleans_sent : ℕ → Sends → ℕ
cleans_sent v [] = 0
cleans_sent v (p ∷ l) = clean_of v p.1 + cleans_sent v l

-- ---- probes
-- 1 for a probe of initiator i, else 0
abbrev pub probe_of : ℕ → Message → ℕ
probe_of i (up m) = 0
probe_of i (down m) = 0
probe_of i (probe a b) = bit (eqb a i)
probe_of i (clean a b) = 0
probe_of i (abort a b) = 0

unfoldable pub probes_by : ℕ → List Message → ℕ
probes_by i [] = 0
probes_by i (m ∷ q) = probe_of i m + probes_by i q

-- the number k, or 0 where there are cleans
unfoldable pub unless_cleaned : ℕ → ℕ → ℕ
unless_cleaned zero k = k
unless_cleaned (suc j) k = 0

-- the probes of initiator i with no clean behind them
unfoldable pub fresh_probes : ℕ → List Message → ℕ
fresh_probes i [] = 0
fresh_probes i (m ∷ q) = unless_cleaned (count_kind Kind.clean q) (probe_of i m) + fresh_probes i q

-- 1 if a probe of initiator i is stored, else 0
abbrev pub is_stored : (ℕ → ℕ) → ℕ → ℕ
is_stored f i = bit (not (eqb (f i) 0))

-- ---- sums
-- the sum of f over a list
unfoldable pub sum_over : (ℕ → ℕ) → List ℕ → ℕ
sum_over f [] = 0
sum_over f (a ∷ l) = f a + sum_over f l

-- f, but 0 at t
unfoldable pub except : ℕ → (ℕ → ℕ) → ℕ → ℕ
except t f a = cond (eqb a t) 0 (f a)
