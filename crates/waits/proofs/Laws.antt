-- Laws of waits: the walk from session to item to session finds the length of a cycle, and what the loops of the code do one step at a time.
use mathlib.Core.Path.{◌≡◌, refl, sym, ap, ◌∙◌}
use mathlib.Core.Bool.{Bool, true, false, cond, not, ◌&&◌, ◌||◌, and-false}
use mathlib.Core.List.{List}
use Rattle.std.specs.Prelude.{Some, None}
use Rattle.std.proofs.lemmas.Option.{none-some, same_Some}
use Prim.Native.Nat.{ℕ, zero, suc, ◌+◌, ◌-◌, ◌*◌, ◌≤◌, ◌<◌, zero-le}
use native.Mathlib.Numerals.{add-one}
use native.Mathlib.Omega.{arith}
use borrow.Author.Tests.{eq-eqb, ne_eqb, eqb-true, eqb-false, not-true}
use lib.Dec.{eqb, eqb-suc-zero}
use lib.ListN.{length, get_or, take, set, replicate}
use Rattle.lists.specs.Lists.{between, lowest, member, tabulate}
use Rattle.lists.proofs.Laws.{all_get_d, all-member, get_d_tabulate, member-more, set-tabulate, tabulate-same}
use Rattle.lists.proofs.Tests.{and_both, by-test, within}
use Rattle.message.specs.Limits.{max_sessions}
use Rattle.lists.proofs.Searches.{lowest_le, lowest-none, lowest-passes, lowest-same}
use Rattle.item.specs.declared.Item.{Item}
use Rattle.item.specs.Record as ItemRecord
use Rattle.item.specs.Record.{Lock, unpacked}
use Rattle.table.specs.Layout.{sessions_of, items_of, item, Formed, HasItem}
use Rattle.table.proofs.Laws.{sized-facts, well_formed-item, packed-item}
use Rattle.waits.specs.Waits.{queued_at, waits_at, waits_for, reached, cycle_length}
use Rattle.waits.specs.declared.Wait.{Wait}
use Rattle.waits.specs.Walk.{one_more, unless_zero, walk_from_session, walk_from_item}
use Rattle.waits.specs.OnTable as OnTable
use Rattle.item.proofs.WellFormed.{LockWellFormed}
use Rattle.item.proofs.WellFormed.{unpacked-lock}
use Rattle.waits.specs.OnTable.{locks}
use Rattle.waits.specs.Places.{places_among, WithPlaces}
use Rattle.waits.proofs.Reached.{Graph, reached-suc}
use Rattle.waits.proofs.Lists.{lowest-first}

-- ---- waits
module _ (M : ℕ) (locks : ℕ → Lock) where
  -- where session 0 waits for none, nothing is reached from it
  pub reached-none : waits_for M locks 0 ≡ 0 → (n : ℕ) → reached (waits_for M locks) n 0 ≡ 0
  unfolding reached
  reached-none f zero = refl
  reached-none f (suc n) = ap (waits_for M locks) (reached-none f n) ∙ f

  module _ (t : ℕ) where
    pub waits_at_le : waits_at M locks t ≤ M
    unfolding waits_at
    waits_at_le = lowest_le M (queued_at M locks t)

    pub waits_at-queued : (waits_at M locks t ≡ 0 → ⊥) → queued_at M locks t (waits_at M locks t) ≡ true
    unfolding waits_at
    waits_at-queued f = lowest-passes M (queued_at M locks t) f

    -- the item at which a session waits is held
    pub waits_at-held : (waits_at M locks t ≡ 0 → ⊥) → (locks (waits_at M locks t)).holder ≡ 0 → ⊥
    unfolding queued_at
    waits_at-held f =
        let x = waits_at M locks t in
        eqb-false (locks x).holder 0 (not-true (eqb (locks x).holder 0) (and_both (not (eqb (locks x).holder 0)) (member t (locks x).queue) (waits_at-queued f)).0)

  -- ---- the walk
  module _ (none : waits_for M locks 0 ≡ 0) (me : ℕ) (low : 1 ≤ me) where
    -- one wait, then the walk from the session waited for
    walk_first : (n s : ℕ) → ((r : ℕ) → walk_from_session (2 * n) M locks me r ≡ lowest n (λ k. eqb (reached (waits_for M locks) k r) me))
        → lowest (suc n) (λ k. eqb (reached (waits_for M locks) k s) me)
        ≡ cond (eqb (waits_for M locks s) me) 1 (one_more (walk_from_session (2 * n) M locks me (waits_for M locks s)))
    unfolding reached
    walk_first n s f =
        let rest = lowest-same n (λ k. eqb (reached (waits_for M locks) (suc k) s) me) (λ k. eqb (reached (waits_for M locks) k (waits_for M locks s)) me) (λ k l h. ap (λ (r : ℕ). eqb r me) (reached-suc (waits_for M locks) k s)) in
        lowest-first n (λ k. eqb (reached (waits_for M locks) k s) me)
        ∙ ap (λ (r : ℕ). cond (eqb (waits_for M locks s) me) 1 (one_more r)) (rest ∙ sym (f (waits_for M locks s)))

    -- nothing is reached from a session that does not wait
    walk_none : (n s : ℕ) → waits_for M locks s ≡ 0 → lowest n (λ k. eqb (reached (waits_for M locks) k s) me) ≡ 0
    walk_none n s e = lowest-none n (λ k. eqb (reached (waits_for M locks) k s) me) after
      where
        after : (k : ℕ) → 1 ≤ k → k ≤ n → eqb (reached (waits_for M locks) k s) me ≡ false
        after zero l h = absurd (omega arith)
        after (suc k) l h = rw (reached-suc (waits_for M locks) k s, e, reached-none none k) (ne_eqb 0 me (λ q. omega arith))

    walk_step : (n s : ℕ) (b : Bool) → eqb (waits_at M locks s) 0 ≡ b
        → ((r : ℕ) → walk_from_session (2 * n) M locks me r ≡ lowest n (λ k. eqb (reached (waits_for M locks) k r) me))
        → cond b 0 (cond (eqb (locks (waits_at M locks s)).holder me) 1 (one_more (walk_from_session (2 * n) M locks me (locks (waits_at M locks s)).holder)))
        ≡ lowest (suc n) (λ k. eqb (reached (waits_for M locks) k s) me)
    unfolding waits_for
    walk_step n s true e f = sym (walk_none (suc n) s (rw (e) refl))
    walk_step n s false e f =
        let for : waits_for M locks s ≡ (locks (waits_at M locks s)).holder = rw (e) refl in sym (rw (for) at (walk_first n s f))

    -- the walk finds the least number of waits
    pub walk : (n s : ℕ) → walk_from_session (2 * n) M locks me s ≡ lowest n (λ k. eqb (reached (waits_for M locks) k s) me)
    unfolding walk_from_session lowest
    walk zero s = refl
    walk (suc n) s =
        let two : 2 * suc n ≡ suc (suc (2 * n)) = omega arith in
        rw (two) (walk_step n s (eqb (waits_at M locks s) 0) refl (walk n))

-- one step of the two halves
left : (n : ℕ) → (n ≡ 0 → ⊥) → n ≡ suc (n - 1)
left n f = omega arith

-- what the two halves answer
module _ (M : ℕ) (locks : ℕ → Lock) (me : ℕ) {n : ℕ} where
  pub session-spent : n ≡ 0 → (s : ℕ) → None ≡ unless_zero (walk_from_session n M locks me s)
  unfolding walk_from_session
  session-spent e s = rw (e) refl

  pub item-spent : n ≡ 0 → (x : ℕ) → None ≡ unless_zero (walk_from_item n M locks me x)
  unfolding walk_from_session
  item-spent e x = rw (e) refl

  module _ (f : n ≡ 0 → ⊥) where
    pub session-step : (s : ℕ) → walk_from_session n M locks me s ≡ cond (eqb (waits_at M locks s) 0) 0 (walk_from_item (n - 1) M locks me (waits_at M locks s))
    unfolding walk_from_session
    session-step s = ap (λ (k : ℕ). walk_from_session k M locks me s) (left n f)

    pub item-step : (x : ℕ) → walk_from_item n M locks me x ≡ cond (eqb (locks x).holder me) 1 (one_more (walk_from_session (n - 1) M locks me (locks x).holder))
    unfolding walk_from_session
    item-step x = ap (λ (k : ℕ). walk_from_item k M locks me x) (left n f)

    pub session-stays : (s : ℕ) → waits_at M locks s ≡ 0 → None ≡ unless_zero (walk_from_session n M locks me s)
    session-stays s e = rw (session-step s, e) refl

    pub session-goes : (s : ℕ) → (waits_at M locks s ≡ 0 → ⊥) → walk_from_session n M locks me s ≡ walk_from_item (n - 1) M locks me (waits_at M locks s)
    session-goes s g = rw (session-step s, ne_eqb (waits_at M locks s) 0 g) refl

    pub item-back : {x h : ℕ} → h ≡ (locks x).holder → h ≡ me → Some 1 ≡ unless_zero (walk_from_item n M locks me x)
    item-back {x} {h} read e = rw (item-step x, ← read, eq-eqb h me e) refl

    pub item-goes : {x h : ℕ} → h ≡ (locks x).holder → (h ≡ me → ⊥) → walk_from_item n M locks me x ≡ one_more (walk_from_session (n - 1) M locks me h)
    item-goes {x} {h} read g = rw (item-step x, ← read, ne_eqb h me g) refl

pub more-none : (w : ℕ) → None ≡ unless_zero w → None ≡ unless_zero (one_more w)
more-none zero e = refl
more-none (suc w) e = absurd (none-some (suc w) e)

pub more-some : (w : ℕ) {r : ℕ} → Some r ≡ unless_zero w → Some (r + 1) ≡ unless_zero (one_more w)
more-some zero {r} e = absurd (none-some r (sym e))
more-some (suc w) {r} e = let same = same_Some r (suc w) e in rw (same, add-one) refl

pub unless-zero-is : (w : ℕ) {r : ℕ} → Some r ≡ unless_zero w → r ≡ w
unless-zero-is zero {r} e = absurd (none-some r (sym e))
unless-zero-is (suc w) {r} e = same_Some r (suc w) e

pub unless-zero-some : (w : ℕ) {r : ℕ} → Some r ≡ unless_zero w → w ≡ 0 → ⊥
unless-zero-some zero {r} e z = none-some r (sym e)
unless-zero-some (suc w) e z = absurd (omega (arith, z))

pub unless-zero-none : (w : ℕ) → None ≡ unless_zero w → w ≡ 0
unless-zero-none zero e = refl
unless-zero-none (suc w) e = absurd (none-some (suc w) e)

-- no more waits than steps
pick_le : (b : Bool) (x n : ℕ) → x ≤ n → cond b 0 x ≤ n
pick_le true x n h = zero-le
pick_le false x n h = h

more_le : (b : Bool) (r n : ℕ) → r ≤ n → cond b 1 (one_more r) ≤ suc n
more_le true r n h = omega arith
more_le false zero n h = zero-le
more_le false (suc r) n h = omega arith

mutual
  unfolding walk_from_session

  pub session_le : (n M : ℕ) (locks : ℕ → Lock) (me s : ℕ) → walk_from_session n M locks me s ≤ n
  session_le zero M locks me s = zero-le
  session_le (suc n) M locks me s =
      pick_le (eqb (waits_at M locks s) 0) (walk_from_item n M locks me (waits_at M locks s)) (suc n) (let h = item_le n M locks me (waits_at M locks s) in omega arith)

  pub item_le : (n M : ℕ) (locks : ℕ → Lock) (me x : ℕ) → walk_from_item n M locks me x ≤ n
  item_le zero M locks me x = zero-le
  item_le (suc n) M locks me x =
      more_le (eqb (locks x).holder me) (walk_from_session n M locks me (locks x).holder) n (session_le n M locks me (locks x).holder)

-- ---- what a well-formed table says
module _ (t : List ℕ) (f : Formed t) where
  module _ {x : ℕ} (has : HasItem t x) where
    in_form : ItemRecord.well_formed (sessions_of t) (item t x) ≡ true
    in_form = well_formed-item t f.formed x has.low has.high

    lock-facts : LockWellFormed (sessions_of t) (unpacked (item t x))
    lock-facts = unpacked-lock (sessions_of t) (item t x) in_form

    pub holder-high : (locks t x).holder ≤ max_sessions
    unfolding locks
    holder-high = let b = sized-facts t f.sized in let k = lock-facts in omega arith

    -- a record as it was read, of which the first n places of the queue are taken
    module _ {i : Item} (e : i ≡ item t x) {n : ℕ} (whole : n ≡ i.waiting) where
      pub queue-fits : n ≤ max_sessions
      queue-fits = rw (whole, e) (packed-item t f.sized f.formed x has.low has.high).fits

      pub queued_session : {j : ℕ} → j < length (take n i.queue) → {s : ℕ} → s ≡ get_or (take n i.queue) j 0 → (1 ≤ s) × (s ≤ max_sessions)
      queued_session {j} h read =
          let most = (sized-facts t f.sized).max-sessions in
          let l = rw (whole, e) at h in
          let two = within 1 (sessions_of t) (get_or (take (item t x).waiting (item t x).queue) j 0) (all_get_d (between 1 (sessions_of t)) (take (item t x).waiting (item t x).queue) j 0 lock-facts.sessions l) in
          rw (read, whole, e) (two.0, omega (arith, two.1, most))

    none-queued : queued_at (items_of t) (locks t) 0 x ≡ false
    unfolding queued_at locks
    none-queued =
        let i = item t x in
        rw (all-member (between 1 (sessions_of t)) 0 (take i.waiting i.queue) lock-facts.sessions refl) (and-false (not (eqb i.holder 0)))

  -- session 0 waits for none
  none-waits : waits_for (items_of t) (locks t) 0 ≡ 0
  unfolding waits_for waits_at
  none-waits = rw (lowest-none (items_of t) (queued_at (items_of t) (locks t) 0) (λ x l h. none-queued (record { sized = f.sized; low = l; high = h }))) refl

  -- whoever is waited for is one of the table's sessions
  waits-inside : (s : ℕ) → waits_for (items_of t) (locks t) s ≤ sessions_of t
  unfolding waits_for locks
  waits-inside s =
      by-test (λ n. n ≤ sessions_of t) (eqb (waits_at (items_of t) (locks t) s) 0) (λ _. zero-le)
      (λ e. let some = eqb-false (waits_at (items_of t) (locks t) s) 0 e in
      (lock-facts (record { sized = f.sized; low = omega arith; high = waits_at_le (items_of t) (locks t) s })).holder)

  pub graph : Graph (OnTable.waits_for t) (sessions_of t)
  graph = record { none = none-waits; inside = waits-inside }

  -- the walk from a session to itself finds its cycle
  pub walk-cycle : (me : ℕ) → 1 ≤ me → walk_from_session (2 * sessions_of t) (items_of t) (locks t) me me ≡ OnTable.cycle_length t me
  unfolding cycle_length
  walk-cycle me l = walk (items_of t) (locks t) none-waits me l (sessions_of t) me

-- the holder as the record has it
pub holder-read : (t : List ℕ) (x : ℕ) {h : ℕ} → h ≡ (item t x).holder → h ≡ (locks t x).holder
unfolding locks
holder-read t x e = e

-- ---- the wait of one session
-- the item at which a session waits is one of the table's
pub waits-at-item : (t : List ℕ) → Formed t → (s : ℕ) → (OnTable.waits_at t s ≡ 0 → ⊥) → HasItem t (OnTable.waits_at t s)
waits-at-item t f s some = record { sized = f.sized; low = omega arith; high = waits_at_le (items_of t) (locks t) s }

-- the places read at a session
pub place_of : {t at : List ℕ} → WithPlaces t at → (s : ℕ) → (1 ≤ s) × (s ≤ max_sessions) → {k : ℕ} → k ≡ s → get_or at (k - 1) 0 ≡ OnTable.waits_at t s
place_of {t} {at} p s h e =
    let one : suc (s - 1) ≡ s = omega (arith, h.0) in
    rw (e, p.read, get_d_tabulate max_sessions (λ k. OnTable.waits_at t (suc k)) (s - 1) 0 (omega (arith, h)), one) refl

module _ (t : List ℕ) (s : ℕ) {x : ℕ} (e : x ≡ OnTable.waits_at t s) where
  pub wait-none : x ≡ 0 → None ≡ OnTable.next_wait t s
  wait-none z = rw (← e, z) refl

  pub wait-some : (x ≡ 0 → ⊥) → {h : ℕ} → h ≡ (item t x).holder → Some (record { session = s; item = x; holder = h }) ≡ OnTable.next_wait t s
  unfolding waits_for locks
  wait-some f held = rw (← e, ne_eqb x 0 f, held) refl

-- what that answer says
waits-test : (b : Bool) {w v : Wait} → Some w ≡ cond b None (Some v) → (b ≡ false) × (w ≡ v)
waits-test true {w} e = absurd (none-some w (sym e))
waits-test false {w} {v} e = (refl, same_Some w v e)

stays-test : (b : Bool) (v : Wait) → None ≡ cond b None (Some v) → b ≡ true
stays-test true v e = refl
stays-test false v e = absurd (none-some v e)

module _ (t : List ℕ) (s : ℕ) where
  pub wait-is : {w : Wait} → Some w ≡ OnTable.next_wait t s → (OnTable.waits_at t s ≡ 0 → ⊥) × (w ≡ OnTable.wait t s)
  wait-is e = let b = waits-test (eqb (OnTable.waits_at t s) 0) e in (eqb-false (OnTable.waits_at t s) 0 b.0, b.1)

  pub waits-nowhere : None ≡ OnTable.next_wait t s → OnTable.waits_at t s ≡ 0
  waits-nowhere e = eqb-true (OnTable.waits_at t s) 0 (stays-test (eqb (OnTable.waits_at t s) 0) (OnTable.wait t s) e)

  pub waits-for-none : None ≡ OnTable.next_wait t s → OnTable.waits_for t s ≡ 0
  unfolding waits_for
  waits-for-none e = rw (waits-nowhere e) refl

-- ---- the places of sessions among the first items
-- the place of session s once the sessions l of the queue of item x are marked; p is its place among the items before x
abbrev pub marked : ℕ → List ℕ → ℕ → ℕ → ℕ
marked x l p s = cond (eqb p 0) (cond (member s l) x 0) p

zero-pick : (p : ℕ) → cond (eqb p 0) 0 p ≡ p
zero-pick zero = refl
zero-pick (suc p) = rw (eqb-suc-zero) refl

module _ (locks : ℕ → Lock) (s : ℕ) where
  waits-suc : (n : ℕ) → waits_at (suc n) locks s ≡ cond (eqb (waits_at n locks s) 0) (cond (queued_at (suc n) locks s (suc n)) (suc n) 0) (waits_at n locks s)
  unfolding waits_at lowest queued_at
  waits-suc n = refl

module _ (locks : ℕ → Lock) (x : ℕ) (l : 1 ≤ x) (s : ℕ) where
  waits-more : waits_at x locks s ≡ cond (eqb (waits_at (x - 1) locks s) 0) (cond (queued_at x locks s x) x 0) (waits_at (x - 1) locks s)
  waits-more = let e : x ≡ suc (x - 1) = omega arith in rw (← e) at (waits-suc locks s (x - 1))

  -- an item that is not held has none who wait
  pub waits-free : (locks x).holder ≡ 0 → waits_at x locks s ≡ waits_at (x - 1) locks s
  unfolding queued_at
  waits-free e = rw (waits-more, e) (zero-pick (waits_at (x - 1) locks s))

  pub waits-held : ((locks x).holder ≡ 0 → ⊥) → waits_at x locks s ≡ marked x (locks x).queue (waits_at (x - 1) locks s) s
  unfolding queued_at
  waits-held f = rw (waits-more, ne_eqb (locks x).holder 0 f) refl

same-pick : (b : Bool) (x : ℕ) → cond b x x ≡ x
same-pick true x = refl
same-pick false x = refl

-- one session more of the queue: its place changes where it has none
turn : (x p : ℕ) (m e : Bool)
    → cond (eqb p 0) (cond (m || e) x 0) p
    ≡ cond (e && eqb (cond (eqb p 0) (cond m x 0) p) 0) x (cond (eqb p 0) (cond m x 0) p)
turn x zero true e = sym (same-pick (e && eqb x 0) x)
turn x zero false true = refl
turn x zero false false = refl
turn x (suc p) m e = rw (eqb-suc-zero, eqb-suc-zero, and-false) refl

module _ (x : ℕ) (q : List ℕ) (p : ℕ → ℕ) (j : ℕ) (h : j < length q) where
  -- the place of session k + 1 when i sessions of the queue are marked
  abbrev after : ℕ → ℕ → ℕ
  after i k = marked x (take i q) (p k) (suc k)

  after_more : (k : ℕ) → after (j + 1) k ≡ cond (eqb (get_or q j 0) (suc k) && eqb (after j k) 0) x (after j k)
  after_more k = rw (member-more (suc k) q j h) (turn x (p k) (member (suc k) (take j q)) (eqb (get_or q j 0) (suc k)))

  module _ {s : ℕ} (read : s ≡ get_or q j 0) (in_range : (1 ≤ s) × (s ≤ max_sessions)) where
    others : (k : ℕ) → (k ≡ s - 1 → ⊥) → after j k ≡ after (j + 1) k
    others k f = rw (after_more k, ← read, ne_eqb s (suc k) (λ z. f (omega arith))) refl

    here : after (j + 1) (s - 1) ≡ cond (eqb (after j (s - 1)) 0) x (after j (s - 1))
    here = rw (after_more (s - 1), ← read, eq-eqb s (suc (s - 1)) (omega (arith, in_range.0))) refl

    -- a session with no place gets one
    pub mark_write : {at : List ℕ} → at ≡ tabulate max_sessions (after j) → get_or at (s - 1) 0 ≡ 0 → set at (s - 1) x ≡ tabulate max_sessions (after (j + 1))
    mark_write e f =
        let k = s - 1 in
        let none = sym (get_d_tabulate max_sessions (after j) k 0 (omega (arith, in_range))) ∙ (rw (e) at f) in
        rw (e) (set-tabulate max_sessions (after j) (after (j + 1)) k x (omega (arith, in_range)) (rw (here, eq-eqb (after j k) 0 none) refl) (λ i b. others i))

    -- any other keeps it
    pub mark_keep : {at : List ℕ} → at ≡ tabulate max_sessions (after j) → (get_or at (s - 1) 0 ≡ 0 → ⊥) → at ≡ tabulate max_sessions (after (j + 1))
    mark_keep {at} e f = e ∙ tabulate-same max_sessions (after j) (after (j + 1)) (λ k b. each k (eqb k (s - 1)) refl)
      where
        each : (k : ℕ) (b : Bool) → eqb k (s - 1) ≡ b → after j k ≡ after (j + 1) k
        each k false n = others k (eqb-false k (s - 1) n)
        each k true n =
            let i = s - 1 in
            let some : after j i ≡ 0 → ⊥ = λ z. f (rw (e) (get_d_tabulate max_sessions (after j) i 0 (omega (arith, in_range)) ∙ z)) in
            rw (eqb-true k i n, here, ne_eqb (after j i) 0 some) refl

-- the places among the items before x, when the first j sessions of the queue q are marked
abbrev pub places_marked : ℕ → List ℕ → List ℕ → ℕ → List ℕ
places_marked x t q j = tabulate max_sessions (λ k. marked x (take j q) (waits_at (x - 1) (locks t) (suc k)) (suc k))

pub places-none : (t : List ℕ) → replicate max_sessions 0 ≡ places_among 0 t
unfolding tabulate waits_at lowest
places-none t = refl

module _ (t : List ℕ) {x : ℕ} (has : HasItem t x) where
  pub places-free : (locks t x).holder ≡ 0 → places_among (x - 1) t ≡ places_among x t
  places-free e =
      tabulate-same max_sessions (λ k. waits_at (x - 1) (locks t) (suc k)) (λ k. waits_at x (locks t) (suc k)) (λ k b. sym (waits-free (locks t) x has.low (suc k) e))

  pub places-first : (q : List ℕ) → places_among (x - 1) t ≡ places_marked x t q 0
  unfolding member
  places-first q =
      tabulate-same max_sessions (λ k. waits_at (x - 1) (locks t) (suc k)) (λ k. marked x (take 0 q) (waits_at (x - 1) (locks t) (suc k)) (suc k))
      (λ k b. sym (zero-pick (waits_at (x - 1) (locks t) (suc k))))

  pub places-last : ((locks t x).holder ≡ 0 → ⊥) → {i : Item} → i ≡ item t x → (q : List ℕ) (j : ℕ) → take j q ≡ take i.waiting i.queue → places_marked x t q j ≡ places_among x t
  unfolding locks
  places-last f {i} e q j all =
      tabulate-same max_sessions (λ k. marked x (take j q) (waits_at (x - 1) (locks t) (suc k)) (suc k)) (λ k. waits_at x (locks t) (suc k))
      (λ k b. rw (all, e) (sym (waits-held (locks t) x has.low (suc k) f)))
