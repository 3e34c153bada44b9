-- Messages that the link invariant does not speak of, and most of what is sent is made of them.
use mathlib.Core.Path.{◌≡◌}
use mathlib.Core.Bool.{Bool, cond}
use mathlib.Core.List.{[], ◌++◌, ◌∷◌, List, map}
use mathlib.Core.Option.{none, Option, some}
use Prim.Native.Nat.{ℕ}
use native.Mathlib.Omega.{arith}
use lib.Dec.{eqb}
use Rattle.lists.specs.Lists.{filter}
use Rattle.lists.proofs.Tests.{by-test}
use Rattle.deadlock.specs.Lists.{one_to}
use Rattle.deadlock.specs.Machine.{abort, clean, down, growing, Item, Message, on_rebroadcast, pass_clean, pass_probe, probe, probes_anew, probes_from, probes_to, rebroadcast, releasing, resend, resends, Rules, Sends, Session, Stage, stored_probes, to_awaited, to_each, up, victim, waiting}
use Rattle.message.specs.Kind
use Rattle.deadlock.specs.Counts.{count_kind, sent_to}
use Rattle.deadlock.specs.Links.{Linked, view_of}
use Rattle.deadlock.proofs.Laws.Routes.{countBehind-none, countKind-append, sentTo-append}

-- messages of kinds of which the link invariant does not speak
pub record Neutral (q : List Message) : Type 0 where
  pub no_request : count_kind Kind.request q ≡ 0
  pub no-release : count_kind Kind.release q ≡ 0
  pub no-withdraw : count_kind Kind.withdraw q ≡ 0
  pub no_grant : count_kind Kind.grant q ≡ 0
  pub no-withdrawn : count_kind Kind.withdrawn q ≡ 0

pub neutral-nil : Neutral []
unfolding count_kind
neutral-nil = omega arith

module _ (t x : ℕ) (r : Session) (i : Item) where
  pub linked_up : (u d q : List Message) → Neutral q → Linked (view_of t x r i u d) → Linked (view_of t x r i (u ++ q) d)
  linked_up u d q m h = omega (arith, countKind-append Kind.request u q, countKind-append Kind.release u q, countKind-append Kind.withdraw u q, countBehind-none Kind.withdraw Kind.request u q m.no_request)

  pub linked-down : (u d q : List Message) → Neutral q → Linked (view_of t x r i u d) → Linked (view_of t x r i u (d ++ q))
  linked-down u d q m h = omega (arith, countKind-append Kind.grant d q, countKind-append Kind.withdrawn d q, countBehind-none Kind.withdrawn Kind.grant d q m.no_grant)

-- what is sent is neutral, whoever it is sent to
pub record AllNeutral (l : Sends) : Type 0 where
  pub neutral-at : (a : ℕ) → Neutral (sent_to a l)

pub neutral-probe : (i j : ℕ) → Neutral (probe i j ∷ [])
unfolding count_kind
neutral-probe i j = omega arith

pub neutral-clean : (i j : ℕ) → Neutral (clean i j ∷ [])
unfolding count_kind
neutral-clean i j = omega arith

pub neutral-abort : (i j : ℕ) → Neutral (abort i j ∷ [])
unfolding count_kind
neutral-abort i j = omega arith

pub neutral-resend : Neutral (down resend ∷ [])
unfolding count_kind
neutral-resend = omega arith

pub neutral-rebroadcast : Neutral (up rebroadcast ∷ [])
unfolding count_kind
neutral-rebroadcast = omega arith

pub all-neutral-nil : AllNeutral []
unfolding sent_to
all-neutral-nil = record { neutral-at = λ a. neutral-nil }

pub all-neutral-cons : {b : ℕ} {m : Message} {l : Sends} → Neutral (m ∷ []) → AllNeutral l → AllNeutral ((b, m) ∷ l)
unfolding sent_to count_kind
all-neutral-cons {b} {m} {l} h k = record { neutral-at = λ a. by-test Neutral (eqb a b) {x = m ∷ sent_to a l} {y = sent_to a l} (λ _. let g : Neutral (sent_to a l) = k.neutral-at a in omega arith) (λ _. k.neutral-at a) }

pub all-neutral-append : (l m : Sends) → AllNeutral l → AllNeutral m → AllNeutral (l ++ m)
all-neutral-append l m h k = record {
  neutral-at = λ a.
      let p = h.neutral-at a in
      let q = k.neutral-at a in
      rw sentTo-append (omega (
        arith,
        countKind-append Kind.request (sent_to a l) (sent_to a m),
        countKind-append Kind.release (sent_to a l) (sent_to a m),
        countKind-append Kind.withdraw (sent_to a l) (sent_to a m),
        countKind-append Kind.grant (sent_to a l) (sent_to a m),
        countKind-append Kind.withdrawn (sent_to a l) (sent_to a m),
      ));
}

pub all-neutral-cond : (b : Bool) (l m : Sends) → AllNeutral l → AllNeutral m → AllNeutral (cond b l m)
all-neutral-cond b l m h k = by-test AllNeutral b {x = l} {y = m} (λ _. h) (λ _. k)

all-neutral-map : (f : ℕ → ℕ × Message) → ((a : ℕ) → Neutral ((f a).1 ∷ [])) → (l : List ℕ) → AllNeutral (map f l)
all-neutral-map f h [] = all-neutral-nil
all-neutral-map f h (x ∷ l) = all-neutral-cons (h x) (all-neutral-map f h l)

ruleset neutral-basics = (all-neutral-nil, all-neutral-cons, all-neutral-append, all-neutral-cond, neutral-probe, neutral-clean, neutral-abort, neutral-resend, neutral-rebroadcast)

pub neutral-toAwaited : (s : Stage) (i j : ℕ) → AllNeutral (to_awaited s (probe i j))
unfolding to_awaited
neutral-toAwaited growing i j = search neutral-basics
neutral-toAwaited (waiting y) i j = search neutral-basics
neutral-toAwaited (victim p y) i j = search neutral-basics
neutral-toAwaited (releasing p) i j = search neutral-basics

module _ (R : Rules) where
  neutral-probesTo : (h : ℕ) (l : List ℕ) → AllNeutral (probes_to R h l)
  unfolding probes_to
  neutral-probesTo h l = all-neutral-map (λ (a : ℕ). (h, probe a h)) (λ a. neutral-probe a h) (filter (λ (a : ℕ). R.senior a h) l)

  neutral-resends : (l : List ℕ) → AllNeutral (resends l)
  unfolding resends
  neutral-resends l = all-neutral-map (λ (a : ℕ). (a, down resend)) (λ a. neutral-resend) l

  pub neutral-probesAnew : (h : ℕ) (l m : List ℕ) → AllNeutral (probes_anew R h l m)
  unfolding probes_anew
  neutral-probesAnew h l m = all-neutral-append _ _ (neutral-probesTo h l) (neutral-resends m)

  pub neutral-passProbe : (i j : ℕ) (o : Option ℕ) → AllNeutral (pass_probe R i j o)
  unfolding pass_probe
  neutral-passProbe i j none = search neutral-basics
  neutral-passProbe i j (some h) = search neutral-basics

  pub neutral-onRebroadcast : (l : List ℕ) (o : Option ℕ) → AllNeutral (on_rebroadcast R l o)
  unfolding on_rebroadcast
  neutral-onRebroadcast l none = search neutral-basics
  neutral-onRebroadcast l (some h) = search (neutral-basics, neutral-probesAnew)

  pub neutral-passClean : (t v i : ℕ) (l : List ℕ) (o : Option ℕ) → AllNeutral (pass_clean R t v i l o)
  unfolding pass_clean
  neutral-passClean t v i l none = search neutral-basics
  neutral-passClean t v i l (some h) = search (neutral-basics, neutral-probesAnew)

  neutral-probesFrom : (f : ℕ → ℕ) (x : ℕ) (l : List ℕ) → AllNeutral (probes_from f x l)
  unfolding probes_from
  neutral-probesFrom f x [] = all-neutral-nil
  neutral-probesFrom f x (i ∷ l) = let ih = neutral-probesFrom f x l in search neutral-basics

  pub neutral-storedProbes : (r : Session) (x : ℕ) → AllNeutral (stored_probes R r x)
  unfolding stored_probes
  neutral-storedProbes r x = neutral-probesFrom r.stored x (one_to R.S)

  pub neutral-toEach : (f : ℕ → Bool) (l : List ℕ) → AllNeutral (to_each (up rebroadcast) f l)
  unfolding to_each
  neutral-toEach f [] = all-neutral-nil
  neutral-toEach f (x ∷ l) = let ih = neutral-toEach f l in search neutral-basics

pub ruleset neutral-sends = (
  all-neutral-nil,
  all-neutral-cons,
  all-neutral-append,
  all-neutral-cond,
  neutral-probe,
  neutral-clean,
  neutral-abort,
  neutral-resend,
  neutral-rebroadcast,
  neutral-probesAnew,
  neutral-passProbe,
  neutral-onRebroadcast,
  neutral-passClean,
  neutral-storedProbes,
  neutral-toEach,
)
