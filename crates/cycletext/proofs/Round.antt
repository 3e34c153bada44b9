-- Going round a cycle, one wait at a time: what the loops of the code know.
use mathlib.Core.Path.{◌≡◌, refl, sym, ap, ◌∙◌, fun_ext}
use mathlib.Core.Bool.{Bool, true, false}
use mathlib.Core.List.{List, [], ◌∷◌, ◌++◌}
use Prim.Native.Nat.{ℕ, suc, ◌+◌, ◌-◌, ◌≤◌, ◌<◌}
use native.Mathlib.Numerals.{add-one}
use native.Mathlib.Omega.{arith}
use native.Mathlib.Decide.{ℕ_discrete}
use Rattle.std.specs.Prelude.{Option, Some, None, cond}
use Rattle.std.specs.Iterator.{Yields, YieldsFirst}
use Rattle.std.proofs.lemmas.Iterator.Consumers.{YieldsList-from_first, YieldsList-turn, YieldsList-end}
use borrow.Author.Tests.{ne_eqb, lt-ltb, le-ltb}
use lib.ListN.{length, get_or, length-append}
use lib.Seq.{take_all}
use Rattle.lists.specs.Lists.{tabulate}
use Rattle.lists.proofs.Laws.{length-tabulate, get_d_tabulate}
use Rattle.message.specs.Limits.{max_sessions}
use Rattle.session.proofs.Seniority.{senior-weak}
use Rattle.session.proofs.MostSenior.{Leads, leads_one, leads_new, leads-still, leads-place}
use Rattle.table.specs.Layout as Table
use Rattle.table.specs.Layout.{sessions_of, Formed}
use Rattle.table.proofs.Laws.{sized-facts, senior-total}
use Rattle.waits.specs.declared.Wait.{Wait}
use Rattle.waits.specs.Waits.{reached, on_cycle}
use Rattle.waits.specs.Cycle as Cycle
use Rattle.waits.specs.OnTable.{waits_for, cycle_length, wait, next_wait, leader}
use Rattle.waits.proofs.Laws.{graph, waits-for-none}
use Rattle.waits.proofs.Leaders.{around-length, around-at, leader-member}
use Rattle.waits.proofs.Members.{off-cycle, on-cycle-inside, member_positive, member-length, next_positive, next-length}
use Rattle.waits.proofs.Reached.{positive_on-cycle, reached-suc}
use Rattle.refusal.specs.Refusal
use Rattle.refusal.specs.Refusal.{first}
use Rattle.cycletext.specs.declared.Around.{Around}
use Rattle.cycletext.specs.Text.{lines}
use Rattle.cycletext.specs.OnTable.{text, text_causes}
use Rattle.cycletext.specs.Parts.{OnCycle, waits_from}

-- the waits that are left
abbrev pub rest : Around → List Wait
rest a = waits_from a.graph.now.table.now a.left a.session

-- ---- the waits of a cycle, one after another
module _ (t : List ℕ) where
  pub from-length : (n s : ℕ) → length (waits_from t n s) ≡ n
  from-length n s = length-tabulate n (λ k. wait t (reached (waits_for t) k s))

  pub from-none : {n : ℕ} (s : ℕ) → n ≡ 0 → waits_from t n s ≡ []
  unfolding tabulate
  from-none s e = rw (e) refl

  pub from-first : (n : ℕ) → (n ≡ 0 → ⊥) → {s : ℕ} {w : Wait} → w ≡ wait t s → waits_from t n s ≡ w ∷ waits_from t (n - 1) w.holder
  unfolding tabulate reached
  from-first n f {s} {w} e =
      let some : n ≡ suc (n - 1) = omega arith in
      let same = ap (tabulate (n - 1)) (fun_ext (λ k. ap (wait t) (reached-suc (waits_for t) k s))) in
      rw (e) (ap (λ (k : ℕ). waits_from t k s) some ∙ ap (λ (l : List Wait). wait t s ∷ l) same)

module _ {t : List ℕ} (f : Formed t) {s : ℕ} (o : OnCycle t s) where
  lies_on-cycle : on_cycle (waits_for t) (sessions_of t) s ≡ true
  lies_on-cycle = positive_on-cycle (waits_for t) (sessions_of t) s o.some

  -- what the code asks of a session whose wait it reads
  pub readable : (1 ≤ s) × (s ≤ max_sessions)
  readable = (o.low, omega (arith, on-cycle-inside (graph t f) s o.low lies_on-cycle, (sized-facts t f.sized).max-sessions))

  -- it waits
  pub goes-on : None ≡ next_wait t s → ⊥
  goes-on e = off-cycle (graph t f) s o.low (waits-for-none t s e) lies_on-cycle

  -- for a session on the same cycle
  pub stays-on : {w : Wait} → w ≡ wait t s → OnCycle t w.holder
  stays-on e =
      rw (e) (record {
        low = next_positive (graph t f) s o.low lies_on-cycle;
        some = omega (arith, o.some, next-length (graph t f) s o.low lies_on-cycle);
      })

-- ---- the most senior member
-- a loop round r that has passed the waits xs: which session's wait is the next, and how many there were
module _ {r a : Around} (whole : a ≡ r) (xs : List Wait) (b : Around) (by : Yields (YieldsFirst rest) a xs b) where
  pub passing : {o : Option Wait} (c : Around) {w : Wait} → o ≡ Some w → YieldsFirst rest b o c
      → (length xs < r.left) × (w.session ≡ reached (waits_for r.graph.now.table.now) (length xs) r.session)
  passing {o} c {w} is steps =
      let t = r.graph.now.table.now in
      let road = YieldsList-from_first (λ (w : Wait). w) rest {s = a} (rest r) (ap rest whole) in
      let turn = YieldsList-turn road xs b by o c w is steps in
      let low : length xs < r.left = omega (arith, turn.0, from-length t r.left r.session) in
      (low, ap (λ (v : Wait). v.session) (turn.1 ∙ get_d_tabulate r.left (λ k. wait t (reached (waits_for t) k r.session)) (length xs) w low))

  pub passed : {o : Option Wait} (c : Around) → o ≡ None → YieldsFirst rest b o c → length xs ≡ r.left
  passed {o} c is steps =
      let road = YieldsList-from_first (λ (w : Wait). w) rest {s = a} (rest r) (ap rest whole) in
      (YieldsList-end road xs b by o c is steps).1 ∙ from-length r.graph.now.table.now r.left r.session

module _ (t : List ℕ) (me : ℕ) where
  -- the session k waits on
  abbrev pub ahead : ℕ → ℕ
  ahead k = reached (waits_for t) k me

  -- the sessions of the cycle
  abbrev all : List ℕ
  all = Cycle.around (waits_for t) (sessions_of t) me

  -- s is the most senior of the first i
  pub record Best (i s : ℕ) : Type 0 where
    pub place : ℕ
    pub there : s ≡ get_or all place 0
    pub leads : Leads (Table.senior t) all i place

module _ {t : List ℕ} (f : Formed t) {me n : ℕ} (o : OnCycle t me) (long : n ≡ cycle_length t me) where
  all-length : length (all t me) ≡ n
  all-length = around-length (waits_for t) (sessions_of t) me ∙ sym long

  all-ahead : (k : ℕ) → k < n → get_or (all t me) k 0 ≡ ahead t me k
  all-ahead k h = around-at (waits_for t) (sessions_of t) me k (omega (arith, long))

  pub best_one : Best t me 1 me
  unfolding reached
  best_one = record { place = 0; there = sym (all-ahead 0 (omega (arith, long, o.some))); leads = leads_one (senior-weak (Table.ranks t)) (all t me) }

  -- one session more, where s is the most senior of the first i, and the first of all where i is 0
  module _ {i s r : ℕ} (none : i ≡ 0 → s ≡ me) (some : 1 ≤ i → Best t me i s) (h : i < n) (e : r ≡ ahead t me i) where
    at-first : i ≡ 0 → {u : ℕ} → u ≡ me → Best t me (i + 1) u
    at-first z g = rw (z, g) best_one

    there_too : r ≡ get_or (all t me) i 0
    there_too = e ∙ sym (all-ahead i h)

    pub best_more : (q : Bool) → Table.senior t r s ≡ q → Best t me (i + 1) (cond q r s)
    unfolding reached
    best_more true q = elim (ℕ_discrete i 0) [
      | yes z ↦ at-first z (e ∙ ap (ahead t me) z)
      | no z ↦ let b = some (omega arith) in
          rw (add-one) (record { place = i; there = there_too; leads = leads_new (senior-weak (Table.ranks t)) (all t me) i b.place b.leads (rw (there_too, b.there) at q) })
    ]
    best_more false q = elim (ℕ_discrete i 0) [
      | yes z ↦ at-first z (none z)
      | no z ↦ let b = some (omega arith) in
          rw (add-one) (record { place = b.place; there = b.there; leads = leads-still (senior-weak (Table.ranks t)) (all t me) i b.place b.leads (rw (there_too, b.there) at q) })
    ]

  pub best_leader : {s : ℕ} → Best t me n s → s ≡ leader t me
  unfolding Cycle.leader
  best_leader b =
      let place = leads-place (senior-weak (Table.ranks t)) (all t me) n b.place (omega (arith, all-length)) b.leads in
      b.there ∙ ap (λ (k : ℕ). get_or (all t me) k 0) (sym (rw (take_all n (all t me) (omega (arith, all-length))) at place))

  -- it lies on the same cycle
  pub from-leader : OnCycle t (leader t me)
  from-leader =
      let g = graph t f in
      let r = leader-member g (senior-total t f.formed) me o.low (lies_on-cycle f o) in
      rw r.2 (record {
        low = member_positive g me o.low (lies_on-cycle f o) r.0;
        some = omega (arith, o.some, member-length g me o.low (lies_on-cycle f o) r.0);
      })

  -- and the text begins there
  pub text-lines : text t me ≡ lines (waits_from t n (leader t me))
  unfolding Cycle.cycle
  text-lines = rw long refl

-- a turn of that loop: s is the most senior of those passed, and at first the first; w's session takes its place or does not
module _ {r a : Around} (whole : a ≡ r) (xs : List Wait) (b : Around) (by : Yields (YieldsFirst rest) a xs b) where
  abbrev seen : List Wait → ℕ → Type 0
  seen l s = (length l ≡ 0 → s ≡ r.session) × (1 ≤ length l → Best r.graph.now.table.now r.session (length l) s)

  pub turn_more : r.left ≡ cycle_length r.graph.now.table.now r.session → {o : Option Wait} (c : Around) {w : Wait} → o ≡ Some w → YieldsFirst rest b o c
      → {s : ℕ} → seen xs s → (q : Bool) → Table.senior r.graph.now.table.now w.session s ≡ q → seen (xs ++ (w ∷ [])) (cond q w.session s)
  turn_more long c {w} is steps p q e =
      let one : length (xs ++ (w ∷ [])) ≡ length xs + 1 = length-append xs (w ∷ []) in
      let turn = passing whole xs b by c is steps in
      (λ z. absurd (omega (arith, z, one)), λ h. rw (one) (best_more r.graph.now.read.formed r.on long p.0 p.1 turn.0 turn.1 q e))

-- ---- the causes of a refusal
module _ (t : ℕ) (table buffer : List ℕ) where
  pub refused_no_cycle : cycle_length table t ≡ 0 → first (text_causes t table buffer) ≡ Refusal.no_cycle
  unfolding first
  refused_no_cycle e = rw (e) refl

  module _ (on : cycle_length table t ≡ 0 → ⊥) where
    pub refused_short : length buffer < length (text table t) → first (text_causes t table buffer) ≡ Refusal.short_buffer
    unfolding first
    refused_short h = rw (ne_eqb (cycle_length table t) 0 on, lt-ltb (length buffer) (length (text table t)) h) refl

    pub not-refused : length (text table t) ≤ length buffer → first (text_causes t table buffer) ≡ 0
    unfolding first
    not-refused h = rw (ne_eqb (cycle_length table t) 0 on, le-ltb (length buffer) (length (text table t)) h) refl
