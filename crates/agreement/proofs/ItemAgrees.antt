-- The lock manager's rules of an item are the machine's.
use mathlib.Core.Path.{◌≡◌, refl, sym, ap, ◌∙◌}
use mathlib.Core.Bool.{Bool, true, false, cond, not, ◌||◌}
use mathlib.Core.List.{List, [], ◌∷◌, ◌++◌}
use mathlib.Core.Option.{Option, none, some}
use Prim.Native.Nat.{ℕ, zero, suc, ◌≤◌, ◌<◌}
use native.Mathlib.Omega.{arith}
use lib.Dec.{eqb}
use lib.ListN.{length, get_or}
use borrow.Author.Tests.{eqb-true, eqb-false, ne_eqb}
use Rattle.lists.specs.Lists.{between, member, distinct, all_of, filter, remove_at}
use Rattle.lists.proofs.Laws.{all_get_d}
use Rattle.lists.proofs.Tests.{by_answer, cond-agrees, within}
use Rattle.message.specs.Kind
use Rattle.message.specs.declared.Message.{Message}
use Rattle.message.specs.Outbox.{message, plain}
use Rattle.item.specs.Record.{Lock}
use Rattle.item.specs.declared.Event.{Event}
use Rattle.item.specs.declared.Event.TheVariants.{Nothing, Declared}
use Rattle.item.specs.Rules as ItemRules
use Rattle.item.specs.Rules.{after, received}
use Rattle.deadlock.specs.Lists.{without}
use Rattle.deadlock.specs.Machine
use Rattle.deadlock.specs.Machine.{item_receives}
use Rattle.agreement.specs.Reading.{read_holder, read_item, read_message, read_sends, read_item_step, rules}
use Rattle.item.proofs.WellFormed.{LockWellFormed}
use Rattle.agreement.proofs.ReadingLists

-- kinds are 1 to 10
pub by_kind : (P : ℕ → Type 0) → P 1 → P 2 → P 3 → P 4 → P 5 → P 6 → P 7 → P 8 → P 9 → P 10 → (k : ℕ) → 1 ≤ k → k ≤ 10 → P k
by_kind P a b c d e f g h i j zero l u = absurd (omega arith)
by_kind P a b c d e f g h i j (suc zero) l u = a
by_kind P a b c d e f g h i j (suc (suc zero)) l u = b
by_kind P a b c d e f g h i j (suc (suc (suc zero))) l u = c
by_kind P a b c d e f g h i j (suc (suc (suc (suc zero)))) l u = d
by_kind P a b c d e f g h i j (suc (suc (suc (suc (suc zero))))) l u = e
by_kind P a b c d e f g h i j (suc (suc (suc (suc (suc (suc zero)))))) l u = f
by_kind P a b c d e f g h i j (suc (suc (suc (suc (suc (suc (suc zero))))))) l u = g
by_kind P a b c d e f g h i j (suc (suc (suc (suc (suc (suc (suc (suc zero)))))))) l u = h
by_kind P a b c d e f g h i j (suc (suc (suc (suc (suc (suc (suc (suc (suc zero))))))))) l u = i
by_kind P a b c d e f g h i j (suc (suc (suc (suc (suc (suc (suc (suc (suc (suc zero)))))))))) l u = j
by_kind P a b c d e f g h i j (suc (suc (suc (suc (suc (suc (suc (suc (suc (suc (suc k))))))))))) l u = absurd (omega arith)

-- the holder is none or some session
pub on-holder : {B : Type 0} (f : Option ℕ → B) (h : ℕ) → f (read_holder h) ≡ cond (eqb h 0) (f none) (f (some h))
unfolding read_holder
on-holder {B} f h = go (eqb h 0)
  where
    go : (b : Bool) → f (cond b none (some h)) ≡ cond b (f none) (f (some h))
    go true = refl
    go false = refl

pub read_holder-some : (h : ℕ) → 1 ≤ h → read_holder h ≡ some h
unfolding read_holder
read_holder-some h l = rw (ne_eqb h 0 (λ e. omega arith)) refl

pub held_by-agrees : (h t : ℕ) → 1 ≤ t → eqb h t ≡ Machine.held_by (read_holder h) t
unfolding Machine.held_by
held_by-agrees h t l = sym (on-holder (λ (o : Option ℕ). Machine.held_by o t) h ∙ by_answer (eqb h 0) none_case some_case)
  where
    none_case : eqb h 0 ≡ true → cond (eqb h 0) false (eqb h t) ≡ eqb h t
    none_case e = rw (e) (sym (ne_eqb h t (λ q. omega (arith, eqb-true h 0 e))))

    some_case : eqb h 0 ≡ false → cond (eqb h 0) false (eqb h t) ≡ eqb h t
    some_case e = rw (e) refl

step_eq : {h g : Option ℕ} {q : List ℕ} {m n : Machine.Sends} {v : Event} → h ≡ g → m ≡ n
    → ◌≡◌ {A = Machine.ItemStep} (record { after = record { holder = h; queue = q }; sends = m; event = v }) (record { after = record { holder = g; queue = q }; sends = n; event = v })
step_eq {q} {v} e f = λ i. record { after = record { holder = e i; queue = q }; sends = f i; event = v }

-- an item that stays as it is, with nothing besides
abbrev sending : Machine.Item → Machine.Sends → Machine.ItemStep
sending r m = record { after = r; sends = m; event = Nothing }

module _ (senior : ℕ → ℕ → Bool) (S M : ℕ) (next : List ℕ → ℕ) where
  abbrev R : Machine.Rules
  R = rules S M senior next

  probes-agree : (h : ℕ) (q : List ℕ) → read_sends (ItemRules.probes senior h q) ≡ Machine.probes_to R h q
  unfolding ItemRules.probes Machine.probes_to read_message
  probes-agree h q =
      ReadingLists.read_sends-map (λ r. message h Kind.probe r h) (filter (λ r. senior r h) q)

  resends-agree : (q : List ℕ) → read_sends (ItemRules.resends q) ≡ Machine.resends q
  unfolding ItemRules.resends Machine.resends read_message
  resends-agree q = ReadingLists.read_sends-map (λ r. plain r Kind.resend) q

  anew-agrees : (h : ℕ) (q l : List ℕ) → read_sends (ItemRules.probes senior h q ++ ItemRules.resends l) ≡ Machine.probes_anew R h q l
  unfolding Machine.probes_anew
  anew-agrees h q l = rw (ReadingLists.read_sends-append, probes-agree, resends-agree) refl

  module _ (k : Lock) (t : ℕ) (a b : ℕ) (t-low : 1 ≤ t) where
    abbrev Agrees : ℕ → Type 0
    Agrees kind = read_item_step (received senior next k (message t kind a b)) ≡ item_receives R t (read_item k) (read_message kind a b)

    on-request : Agrees Kind.request
    unfolding received item_receives read_message ItemRules.on_request Machine.on_request Machine.grant_or_queue ItemRules.granted ItemRules.queued read_sends
    on-request =
        cond-agrees read_item_step (eqb k.holder t || member t k.queue) _
        (ap (λ (c : Bool). c || member t k.queue) (held_by-agrees k.holder t t-low))
        (λ e. refl)
        (λ e. cond-agrees read_item_step (eqb k.holder 0) _ refl
        (λ f. rw (read_holder-some t t-low) refl)
        (λ f. step_eq (read_holder-some k.holder (omega (arith, eqb-false k.holder 0 f)))
        (cond-agrees read_sends (senior t k.holder) _ refl (λ g. refl) (λ g. refl))) ∙ sym (on-holder (Machine.grant_or_queue R t k.queue) k.holder))

    handed-over : (n : ℕ) (q rest : List ℕ) → 1 ≤ n → rest ≡ without n q
        → read_item_step (ItemRules.handed_over senior n rest)
        ≡ record { after = record { holder = some n; queue = without n q }; sends = (n, Machine.down Machine.grant) ∷ Machine.probes_anew R n (without n q) (without n q); event = Nothing }
    unfolding ItemRules.handed_over read_sends read_message
    handed-over n q rest l e = rw (read_holder-some n l, anew-agrees n rest rest, e) refl

    vacated-agrees : (q : List ℕ) → all_of (between 1 S) q ≡ true → distinct q ≡ true → (0 < length q → next q < length q)
        → read_item_step (ItemRules.vacated senior next q) ≡ Machine.hand_over R q
    unfolding ItemRules.vacated Machine.hand_over read_holder read_sends
    vacated-agrees [] w d h = refl
    vacated-agrees (x ∷ q) w d h =
        let l : List ℕ = x ∷ q in
        let inside : next l < length l = h (omega arith) in
        let n = get_or l (next l) 0 in
        handed-over n l (remove_at (next l) l) (within 1 S n (all_get_d (between 1 S) l (next l) 0 w inside)).0 (ReadingLists.remove_at-without l (next l) d inside)

    on-release : all_of (between 1 S) k.queue ≡ true → distinct k.queue ≡ true → (0 < length k.queue → next k.queue < length k.queue) → Agrees Kind.release
    unfolding received item_receives read_message ItemRules.on_release Machine.on_release read_sends
    on-release w d h =
        cond-agrees read_item_step (eqb k.holder t) _ (held_by-agrees k.holder t t-low) (λ e. vacated-agrees k.queue w d h) (λ e. refl)

    on-probe : Agrees Kind.probe
    unfolding received item_receives read_message ItemRules.on_probe Machine.in_queue Machine.pass_probe Machine.declares read_sends
    on-probe = go (member t k.queue) (eqb k.holder 0) (senior k.holder a) (eqb k.holder a) ∙ sym (on-holder (passed (member t k.queue)) k.holder)
      where
        passed : Bool → Option ℕ → Machine.ItemStep
        passed here o = record { after = read_item k; sends = cond here (Machine.pass_probe R a b o) []; event = cond here (Machine.declares R a b o) Nothing }

        go : (here free above same : Bool)
            → read_item_step (cond (not here || free || above) (ItemRules.dropped k) (cond same (after k (message b Kind.abort b a ∷ []) (Declared b a)) (after k (message k.holder Kind.probe a b ∷ []) Nothing)))
            ≡ cond free (record { after = read_item k; sends = cond here [] []; event = cond here Nothing Nothing }) (record {
              after = read_item k;
              sends = cond here (cond above [] (cond same ((b, Machine.abort b a) ∷ []) ((k.holder, Machine.probe a b) ∷ []))) [];
              event = cond here (cond above Nothing (cond same (Declared b a) Nothing)) Nothing;
            })
        go false true above same = refl
        go false false above same = refl
        go true true above same = refl
        go true false true same = refl
        go true false false true = refl
        go true false false false = refl

    on-clean : Agrees Kind.clean
    unfolding received item_receives read_message ItemRules.on_clean Machine.pass_clean read_sends
    on-clean =
        cond-agrees read_item_step (eqb k.holder 0) _ {u = Machine.item_drops (read_item k)} {v = sending (read_item k) (Machine.pass_clean R t a b k.queue (some k.holder))} refl (λ e. refl)
        (λ e. ap (λ (l : Machine.Sends). sending (read_item k) ((k.holder, Machine.clean a b) ∷ l)) (anew-agrees k.holder k.queue (ItemRules.without t k.queue) ∙ ap (Machine.probes_anew R k.holder k.queue) (ReadingLists.without-agrees t k.queue)))
        ∙ sym (on-holder (λ (o : Option ℕ). sending (read_item k) (Machine.pass_clean R t a b k.queue o)) k.holder)

    on-rebroadcast : Agrees Kind.rebroadcast
    unfolding received item_receives read_message ItemRules.on_rebroadcast Machine.on_rebroadcast read_sends
    on-rebroadcast =
        cond-agrees read_item_step (eqb k.holder 0) _ {u = Machine.item_drops (read_item k)} {v = sending (read_item k) (Machine.on_rebroadcast R k.queue (some k.holder))} refl (λ e. refl)
        (λ e. ap (sending (read_item k)) (anew-agrees k.holder k.queue k.queue))
        ∙ sym (on-holder (λ (o : Option ℕ). sending (read_item k) (Machine.on_rebroadcast R k.queue o)) k.holder)

    on-withdraw : Agrees Kind.withdraw
    unfolding received item_receives read_message ItemRules.on_withdraw read_sends
    on-withdraw = rw (ReadingLists.without-agrees t k.queue) refl

    agrees : LockWellFormed S k → (0 < length k.queue → next k.queue < length k.queue) → (kind : ℕ) → 1 ≤ kind → kind ≤ 10 → Agrees kind
    unfolding received item_receives read_message read_sends
    agrees w h =
        by_kind Agrees on-request (on-release w.sessions w.once h) on-probe on-clean on-rebroadcast on-withdraw refl refl refl refl

-- any seniority, any place of the next holder, any lock that is well-formed, any message of a session
module _ (senior : ℕ → ℕ → Bool) (next : List ℕ → ℕ) (S M : ℕ) (k : Lock) (m : Message) (from : 1 ≤ m.peer) (low : 1 ≤ m.kind) (high : m.kind ≤ 10) where
  -- the lock that follows, what is sent, and what happens besides
  pub item-agrees : LockWellFormed S k → (0 < length k.queue → next k.queue < length k.queue)
      → read_item_step (received senior next k m) ≡ item_receives (rules S M senior next) m.peer (read_item k) (read_message m.kind m.a m.b)
  item-agrees w h = agrees senior S M next k m.peer m.a m.b from w h m.kind low high
