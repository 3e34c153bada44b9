-- Laws of the counts of messages, of cleans and of probes.
use mathlib.Core.Path.{◌≡◌, ap, refl}
use mathlib.Core.Bool.{Bool, cond, false, false≢true, true}
use mathlib.Core.List.{[], ◌++◌, ◌∷◌, List, map}
use mathlib.Core.Option.{none, Option, some}
use Prim.Native.Nat.{◌+◌, ◌≤◌, ℕ}
use native.Mathlib.Omega.{arith}
use lib.Dec.{eqb}
use borrow.Author.Tests.{eqb-true, ne_eqb}
use Rattle.lists.specs.Lists.{filter}
use Rattle.lists.proofs.Tests.{by-test, eqb_self, same?}
use Rattle.deadlock.specs.Lists.{bit, occurs}
use Rattle.deadlock.specs.Machine.{abort, clean, down, Downward, grant, growing, held_by, in_queue, Item, item_receives, Message, on_rebroadcast, pass_probe, probe, probes_anew, probes_from, probes_to, rebroadcast, rebroadcasts, release, releasing, request, resend, resends, Rules, Sends, Session, Stage, to_awaited, to_each, up, Upward, victim, waiting, withdraw, withdrawn}
use Rattle.message.specs.Kind
use Rattle.deadlock.specs.Counts.{behind-cons, behind-nil, behind_request, clean_of, cleans_of, cleans_sent, count_kind, EachBehind, Every, every-cons, every-nil, kind_of, OfProbe, sent_to}
use Rattle.deadlock.proofs.Laws.Lists.{bit_le, member-occurs, not-member-occurs}

module _ {A : Type 0} {Q : A → Type 0} where
  pub every_append : {l m : List A} → Every Q l → Every Q m → Every Q (l ++ m)
  every_append every-nil k = k
  every_append (every-cons h r) k = every-cons h (every_append r k)

  pub every-head : {a : A} {l : List A} → Every Q (a ∷ l) → Q a
  every-head (every-cons h r) = h

  pub every-tail : {a : A} {l : List A} → Every Q (a ∷ l) → Every Q l
  every-tail (every-cons h r) = r

pub every_map : {A : Type 0} {P Q : A → Type 0} → ((a : A) → P a → Q a) → {l : List A} → Every P l → Every Q l
every_map f every-nil = every-nil
every_map f (every-cons {a} h r) = every-cons (f a h) (every_map f r)

-- what a message with its receiver tells
unfoldable pub TellsTo : (ℕ → ℕ → ℕ → Type 0) → ℕ × Message → Type 0
TellsTo J p = OfProbe (J p.0) p.1

-- of all that is told, what is told to one receiver
pub every-sentTo : (J : ℕ → ℕ → ℕ → Type 0) (a : ℕ) {l : Sends} → Every (TellsTo J) l → Every (OfProbe (J a)) (sent_to a l)
unfolding TellsTo sent_to
every-sentTo J a every-nil = every-nil
every-sentTo J a (every-cons {a = p} {l = l} h r) = by-test (Every (OfProbe (J a))) (eqb a p.0) (λ e. every-cons (rw (eqb-true a p.0 e) h) (every-sentTo J a r)) (λ e. every-sentTo J a r)

-- J holds of every probe that is sent
unfoldable pub AllTell : (ℕ → ℕ → Type 0) → Sends → Type 0
AllTell J l = Every (λ (p : ℕ × Message). OfProbe J p.1) l

pub cleansOf-append : (v : ℕ) (l m : List Message) → cleans_of v (l ++ m) ≡ cleans_of v l + cleans_of v m
unfolding cleans_of
cleansOf-append v [] m = omega arith
cleansOf-append v (b ∷ l) m = omega (arith, cleansOf-append v l m)

-- the kinds that a message with no session named is not of
pub record UpKinds (m : Upward) : Type 0 where
  pub no-clean : eqb (kind_of (up m)) Kind.clean ≡ false
  pub no_grant : eqb (kind_of (up m)) Kind.grant ≡ false
  pub no-resend : eqb (kind_of (up m)) Kind.resend ≡ false
  pub no_abort : eqb (kind_of (up m)) Kind.abort ≡ false
  pub no-withdrawn : eqb (kind_of (up m)) Kind.withdrawn ≡ false

pub up-kinds : (m : Upward) → UpKinds m
up-kinds request = record { no-clean = refl; no_grant = refl; no-resend = refl; no_abort = refl; no-withdrawn = refl }
up-kinds release = record { no-clean = refl; no_grant = refl; no-resend = refl; no_abort = refl; no-withdrawn = refl }
up-kinds rebroadcast = record { no-clean = refl; no_grant = refl; no-resend = refl; no_abort = refl; no-withdrawn = refl }
up-kinds withdraw = record { no-clean = refl; no_grant = refl; no-resend = refl; no_abort = refl; no-withdrawn = refl }

pub record DownKinds (m : Downward) : Type 0 where
  pub no_request : eqb (kind_of (down m)) Kind.request ≡ false
  pub no-release : eqb (kind_of (down m)) Kind.release ≡ false
  pub no-clean : eqb (kind_of (down m)) Kind.clean ≡ false
  pub no-rebroadcast : eqb (kind_of (down m)) Kind.rebroadcast ≡ false
  pub no-withdraw : eqb (kind_of (down m)) Kind.withdraw ≡ false

pub down-kinds : (m : Downward) → DownKinds m
down-kinds grant = record { no_request = refl; no-release = refl; no-clean = refl; no-rebroadcast = refl; no-withdraw = refl }
down-kinds resend = record { no_request = refl; no-release = refl; no-clean = refl; no-rebroadcast = refl; no-withdraw = refl }
down-kinds withdrawn = record { no_request = refl; no-release = refl; no-clean = refl; no-rebroadcast = refl; no-withdraw = refl }

cleanOf-le : (v : ℕ) (m : Message) → clean_of v m ≤ bit (eqb (kind_of m) Kind.clean)
cleanOf-le v (up m) = omega arith
cleanOf-le v (down m) = omega arith
cleanOf-le v (probe i j) = omega arith
cleanOf-le v (clean a b) = bit_le (eqb a v)
cleanOf-le v (abort a b) = omega arith

pub cleansOf-le : (v : ℕ) (q : List Message) → cleans_of v q ≤ count_kind Kind.clean q
unfolding cleans_of count_kind
cleansOf-le v [] = omega arith
cleansOf-le v (m ∷ q) = omega (arith, cleanOf-le v m, cleansOf-le v q)

cleanOf-some : (m : Message) → 1 ≤ bit (eqb (kind_of m) Kind.clean) → (v : ℕ) × (1 ≤ clean_of v m)
cleanOf-some (up m) h = absurd (omega (arith, ap bit (up-kinds m).no-clean))
cleanOf-some (down m) h = absurd (omega (arith, ap bit (down-kinds m).no-clean))
cleanOf-some (probe i j) h = absurd (omega arith)
cleanOf-some (clean a b) h = (a, omega (arith, ap bit (eqb_self a)))
cleanOf-some (abort a b) h = absurd (omega arith)

-- a clean has a victim
pub cleansOf-some : (q : List Message) → 1 ≤ count_kind Kind.clean q → (v : ℕ) × (1 ≤ cleans_of v q)
unfolding cleans_of count_kind
cleansOf-some [] h = absurd (omega arith)
cleansOf-some (m ∷ q) h = cases (eqb (kind_of m) Kind.clean) refl (cleansOf-some q)
  where
    cases : (b : Bool) → eqb (kind_of m) Kind.clean ≡ b → (1 ≤ count_kind Kind.clean q → (v : ℕ) × (1 ≤ cleans_of v q)) → (v : ℕ) × (1 ≤ clean_of v m + cleans_of v q)
    cases true e ih = let r = cleanOf-some m (omega (arith, ap bit e)) in (r.0, omega (arith, r.1))
    cases false e ih = let r = ih (omega (arith, ap bit e)) in (r.0, omega (arith, r.1))

pub behind-head : {Q : Message → List Message → Type 0} {m : Message} {q : List Message} → EachBehind Q (m ∷ q) → Q m q
behind-head (behind-cons h r) = h

pub behind-tail : {Q : Message → List Message → Type 0} {m : Message} {q : List Message} → EachBehind Q (m ∷ q) → EachBehind Q q
behind-tail (behind-cons h r) = r

-- mapped, with p sent behind, where no more cleans stand behind each message than in the whole
pub behind-map : {P Q : Message → List Message → Type 0} (k : ℕ) (p : List Message)
    → ((m : Message) (r : List Message) → count_kind Kind.clean r ≤ k → P m r → Q m (r ++ p)) → EachBehind Q p → {q : List Message} → count_kind Kind.clean q ≤ k
    → EachBehind P q → EachBehind Q (q ++ p)
unfolding count_kind
behind-map k p f b l behind-nil = b
behind-map k p f b l (behind-cons {m} {q} h r) = behind-cons (f m q (omega arith) h) (behind-map k p f b (omega arith) r)

pub behind-same : {P Q : Message → List Message → Type 0} (k : ℕ) → ((m : Message) (r : List Message) → count_kind Kind.clean r ≤ k → P m r → Q m r)
    → {q : List Message} → count_kind Kind.clean q ≤ k → EachBehind P q → EachBehind Q q
unfolding count_kind
behind-same k f l behind-nil = behind-nil
behind-same k f l (behind-cons {m} {q} h r) = behind-cons (f m q (omega arith) h) (behind-same k f (omega arith) r)

pub behindRequest-none : (q : List Message) → count_kind Kind.request q ≡ 0 → behind_request q ≡ []
unfolding behind_request count_kind
behindRequest-none [] z = refl
behindRequest-none (m ∷ q) z = cases (eqb (kind_of m) Kind.request) refl (behindRequest-none q)
  where
    cases : (b : Bool) → eqb (kind_of m) Kind.request ≡ b → (count_kind Kind.request q ≡ 0 → behind_request q ≡ []) → cond b q (behind_request q) ≡ []
    cases true e ih = absurd (omega (arith, ap bit e))
    cases false e ih = ih (omega arith)

pub ofProbe-map : {J K : ℕ → ℕ → Type 0} → ((i j : ℕ) → J i j → K i j) → (m : Message) → OfProbe J m → OfProbe K m
ofProbe-map f (up m) c = tt
ofProbe-map f (down m) c = tt
ofProbe-map f (probe i j) c = f i j c
ofProbe-map f (clean v i) c = tt
ofProbe-map f (abort v i) c = tt

pub behindRequest-le : (q : List Message) → count_kind Kind.clean (behind_request q) ≤ count_kind Kind.clean q
unfolding behind_request count_kind
behindRequest-le [] = omega arith
behindRequest-le (m ∷ q) = by-test (λ (k : List Message). count_kind Kind.clean k ≤ bit (eqb (kind_of m) Kind.clean) + count_kind Kind.clean q) (eqb (kind_of m) Kind.request) {x = q} {y = behind_request q} (λ _. omega arith) (λ _. omega (arith, behindRequest-le q))

-- what holds of each message whatever stands behind it
pub every-behind : {Q : Message → Type 0} {P : Message → List Message → Type 0} → ((m : Message) (r : List Message) → Q m → P m r) → {q : List Message}
    → Every Q q → EachBehind P q
every-behind f every-nil = behind-nil
every-behind f (every-cons {a} {l} h r) = behind-cons (f a l h) (every-behind f r)

pub cleansSent-append : (v : ℕ) (l m : Sends) → cleans_sent v (l ++ m) ≡ cleans_sent v l + cleans_sent v m
unfolding cleans_sent
cleansSent-append v [] m = omega arith
cleansSent-append v (p ∷ l) m = omega (arith, cleansSent-append v l m)

pub cleansOf-sentTo : (v a : ℕ) (l : Sends) → cleans_of v (sent_to a l) ≤ cleans_sent v l
unfolding cleans_sent cleans_of sent_to
cleansOf-sentTo v a [] = omega arith
cleansOf-sentTo v a (p ∷ l) = by-test (λ (q : List Message). cleans_of v q ≤ clean_of v p.1 + cleans_sent v l) (eqb a p.0) {x = p.1 ∷ sent_to a l} {y = sent_to a l} (λ _. omega (arith, cleansOf-sentTo v a l)) (λ _. omega (arith, cleansOf-sentTo v a l))

pub cleansSent-resends : (v : ℕ) (l : List ℕ) → cleans_sent v (resends l) ≡ 0
unfolding cleans_sent resends
cleansSent-resends v [] = refl
cleansSent-resends v (a ∷ l) = omega (arith, cleansSent-resends v l)

pub cleansSent-probesTo : (R : Rules) (v h : ℕ) (l : List ℕ) → cleans_sent v (probes_to R h l) ≡ 0
unfolding cleans_sent probes_to filter
cleansSent-probesTo R v h [] = refl
cleansSent-probesTo R v h (b ∷ l) = by-test (λ (q : List ℕ). cleans_sent v (map (λ (a : ℕ). (h, probe a h)) q) ≡ 0) (R.senior b h) (λ _. omega (arith, cleansSent-probesTo R v h l)) (λ _. cleansSent-probesTo R v h l)

pub cleansSent-probesAnew : (R : Rules) (v h : ℕ) (l m : List ℕ) → cleans_sent v (probes_anew R h l m) ≡ 0
unfolding probes_anew
cleansSent-probesAnew R v h l m = omega (arith, cleansSent-append v (probes_to R h l) (resends m), cleansSent-probesTo R v h l, cleansSent-resends v m)

-- what is sent to the next holder and to the rest
pub cleansSent-handOver : (R : Rules) (v h : ℕ) (l m : List ℕ) → cleans_sent v ((h, down grant) ∷ probes_anew R h l m) ≡ 0
unfolding cleans_sent
cleansSent-handOver R v h l m = omega (arith, cleansSent-probesAnew R v h l m)

pub cleansSent-passProbe : (R : Rules) (v i j : ℕ) (o : Option ℕ) → cleans_sent v (pass_probe R i j o) ≡ 0
unfolding cleans_sent pass_probe
cleansSent-passProbe R v i j none = refl
cleansSent-passProbe R v i j (some h) =
    by-test (λ (q : Sends). cleans_sent v q ≡ 0) (R.senior h i) (λ _. refl) (λ _. by-test (λ (q : Sends). cleans_sent v q ≡ 0) (eqb h i) (λ _. omega arith) (λ _. omega arith))

pub behindRequest-behind : {Q : Message → List Message → Type 0} {q : List Message} → EachBehind Q q → EachBehind Q (behind_request q)
unfolding behind_request
behindRequest-behind behind-nil = behind-nil
behindRequest-behind {Q} (behind-cons {m} {q} h r) = by-test (EachBehind Q) (eqb (kind_of m) Kind.request) {x = q} {y = behind_request q} (λ _. r) (λ _. behindRequest-behind r)

pub behindRequest-append : (q p : List Message) → 1 ≤ count_kind Kind.request q → behind_request (q ++ p) ≡ behind_request q ++ p
unfolding behind_request count_kind
behindRequest-append [] p h = absurd (omega arith)
behindRequest-append (m ∷ q) p h = cases (eqb (kind_of m) Kind.request) refl (behindRequest-append q p)
  where
    cases : (b : Bool) → eqb (kind_of m) Kind.request ≡ b → (1 ≤ count_kind Kind.request q → behind_request (q ++ p) ≡ behind_request q ++ p)
        → cond b (q ++ p) (behind_request (q ++ p)) ≡ cond b q (behind_request q) ++ p
    cases true e ih = refl
    cases false e ih = ih (omega (arith, ap bit e))

pub behindRequest-new : (q p : List Message) → count_kind Kind.request q ≡ 0 → behind_request (q ++ p) ≡ behind_request p
unfolding behind_request count_kind
behindRequest-new [] p h = refl
behindRequest-new (m ∷ q) p h = cases (eqb (kind_of m) Kind.request) refl (behindRequest-new q p)
  where
    cases : (b : Bool) → eqb (kind_of m) Kind.request ≡ b → (count_kind Kind.request q ≡ 0 → behind_request (q ++ p) ≡ behind_request p)
        → cond b (q ++ p) (behind_request (q ++ p)) ≡ behind_request p
    cases true e ih = absurd (omega (arith, ap bit e))
    cases false e ih = ih (omega (arith, ap bit e))

pub every-occurs : {P : ℕ → Type 0} (u : ℕ) {ps : List ℕ} → Every P ps → 1 ≤ occurs u ps → P u
unfolding occurs
every-occurs u every-nil h = absurd (omega arith)
every-occurs {P} u (every-cons {a} {l} k r) h = elim (same? a u) [ yes q ↦ rw q at k | no q ↦ every-occurs u r (omega (arith, ap bit (ne_eqb a u q))) ]

pub behind-any : (q : List Message) → EachBehind (λ _ _. Unit {0}) q
behind-any [] = behind-nil
behind-any (m ∷ q) = behind-cons tt (behind-any q)

pub ofProbe-all : {K : ℕ → ℕ → Type 0} → ((i j : ℕ) → K i j) → (m : Message) → OfProbe K m
ofProbe-all f (up m) = tt
ofProbe-all f (down m) = tt
ofProbe-all f (probe i j) = f i j
ofProbe-all f (clean v i) = tt
ofProbe-all f (abort v i) = tt

-- what an item sends on a probe or on a rebroadcast has no clean
pub cleansSent-probe : (R : Rules) (v t : ℕ) (r : Item) (i j : ℕ) → cleans_sent v (item_receives R t r (probe i j)).sends ≡ 0
unfolding item_receives cleans_sent
cleansSent-probe R v t r i j = by-test (λ (q : Sends). cleans_sent v q ≡ 0) (in_queue R t r) (λ _. cleansSent-passProbe R v i j r.holder) (λ _. refl)

pub cleansSent-onRebroadcast : (R : Rules) (v : ℕ) (l : List ℕ) (o : Option ℕ) → cleans_sent v (on_rebroadcast R l o) ≡ 0
unfolding cleans_sent on_rebroadcast
cleansSent-onRebroadcast R v l none = refl
cleansSent-onRebroadcast R v l (some h) = cleansSent-probesAnew R v h l l

pub cleansSent-toEach : (v : ℕ) (m : Message) → clean_of v m ≡ 0 → (f : ℕ → Bool) (l : List ℕ) → cleans_sent v (to_each m f l) ≡ 0
unfolding to_each cleans_sent
cleansSent-toEach v m z f [] = refl
cleansSent-toEach v m z f (x ∷ l) = by-test (λ (q : Sends). cleans_sent v q ≡ 0) (f x) (λ _. omega (arith, z, cleansSent-toEach v m z f l)) (λ _. cleansSent-toEach v m z f l)

pub cleansSent-probesFrom : (v : ℕ) (f : ℕ → ℕ) (x : ℕ) (l : List ℕ) → cleans_sent v (probes_from f x l) ≡ 0
unfolding probes_from cleans_sent
cleansSent-probesFrom v f x [] = refl
cleansSent-probesFrom v f x (i ∷ l) = by-test (λ (q : Sends). cleans_sent v q ≡ 0) (eqb (f i) 0) (λ _. cleansSent-probesFrom v f x l) (λ _. omega (arith, cleansSent-probesFrom v f x l))

-- the rebroadcasts have no clean
pub cleansSent-rebroadcasts : (R : Rules) (v x : ℕ) (r : Session) → cleans_sent v (rebroadcasts R x r) ≡ 0
unfolding rebroadcasts
cleansSent-rebroadcasts R v x r = cleansSent-toEach v (up rebroadcast) refl _ _

-- a probe is taken from a session in the queue, and only from such a session
pub inQueue-queued : (R : Rules) (t : ℕ) (r : Item) → in_queue R t r ≡ true → 1 ≤ occurs t r.queue
unfolding in_queue
inQueue-queued R t r e = member-occurs t r.queue e

pub not-inQueue : (R : Rules) (t : ℕ) (r : Item) → in_queue R t r ≡ false → occurs t r.queue ≡ 0
unfolding in_queue
not-inQueue R t r e = not-member-occurs t r.queue e

-- the holder, by its test
pub is_held_by : (o : Option ℕ) (t : ℕ) → held_by o t ≡ true → o ≡ some t
unfolding held_by
is_held_by none t e = absurd (false≢true e)
is_held_by (some h) t e = ap some (eqb-true h t e)

-- what a session sends to the item that it awaits
pub cleansSent-toAwaited : (v : ℕ) (s : Stage) (i j : ℕ) → cleans_sent v (to_awaited s (probe i j)) ≡ 0
unfolding to_awaited cleans_sent
cleansSent-toAwaited v growing i j = refl
cleansSent-toAwaited v (waiting y) i j = refl
cleansSent-toAwaited v (victim p y) i j = refl
cleansSent-toAwaited v (releasing p) i j = refl

pub allTell-toAwaited : (K : ℕ → ℕ → Type 0) (s : Stage) (i j : ℕ) → K i j → AllTell K (to_awaited s (probe i j))
unfolding to_awaited AllTell
allTell-toAwaited K growing i j c = every-nil
allTell-toAwaited K (waiting y) i j c = every-cons c every-nil
allTell-toAwaited K (victim p y) i j c = every-cons c every-nil
allTell-toAwaited K (releasing p) i j c = every-nil
