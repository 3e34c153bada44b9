-- The clauses by which no cycle is missed: whatever probe a session still needs is on its way. Each is a sum that is not 0, of what may bring the probe.
use Rattle.std.specs.Prelude.{◌≡◌, cond, true, ◌⊎◌, ◌+◌, ◌≤◌, ℕ}
use Rattle.lists.specs.Lists.{sum_up_to}
use Rattle.deadlock.specs.Machine.{Rules}
use Rattle.message.specs.Kind
use Rattle.deadlock.specs.Counts.{behind_request, count_kind, except, fresh_probes, is_stored, sum_over, unless_cleaned}
use Rattle.deadlock.specs.Walks.{FirstApart, Walk}
use Rattle.deadlock.specs.World.{Edge, HolderIs, is_waiting, Live, Queued, stage_of, VictimIn, World}

-- 1 if session t stores a probe of initiator i, else 0
abbrev pub stores : World → ℕ → ℕ → ℕ
stores w t i = is_stored (w.session t).stored i

module _ (R : Rules) (w : World) where
  -- cleans on their way to h from items other than x
  unfoldable pub cleans_elsewhere : ℕ → ℕ → ℕ
  cleans_elsewhere h x = sum_up_to R.M (except x (λ y. count_kind Kind.clean (w.down h y)))

  -- a rebroadcast from h to item x, on its way or still to be sent when a clean arrives at h
  unfoldable pub rebroadcast_due : ℕ → ℕ → ℕ
  rebroadcast_due x h = count_kind Kind.rebroadcast (w.up h x) + cond ((w.session h).held x) (cleans_elsewhere h x) 0

  -- cleans on their way to x from the sessions in its queue
  unfoldable pub cleans_from_queue : ℕ → ℕ
  cleans_from_queue x = sum_over (λ a. count_kind Kind.clean (w.up a x)) (w.item x).queue

  -- the same, but for those of t
  unfoldable pub cleans_from_others : ℕ → ℕ → ℕ
  cleans_from_others t x = sum_over (except t (λ a. count_kind Kind.clean (w.up a x))) (w.item x).queue

  -- a probe of initiator i from x to h with no clean behind it, or stored at h with no clean on its way from x
  unfoldable pub probe_reaches : ℕ → ℕ → ℕ → ℕ
  probe_reaches i x h = fresh_probes i (w.down h x) + unless_cleaned (count_kind Kind.clean (w.down h x)) (stores w h i)

  -- what makes t, or item x for t, send a probe of initiator i towards h: a rebroadcast, a clean of another session, a resend; or such a probe
  -- on its way from t
  abbrev pub under_way : ℕ → ℕ → ℕ → ℕ → ℕ
  under_way t x h i = rebroadcast_due x h + cleans_from_others t x + count_kind Kind.resend (w.down t x) + fresh_probes i (w.up t x)

  -- an abort on its way to a session that waits
  pub record AbortPending (a : ℕ) : Type 0 where
    pub waits : 1 ≤ is_waiting (stage_of w a)
    pub item : ℕ
    pub sent : 1 ≤ count_kind Kind.abort (w.down a item)

  -- t lies on a cycle that is declared: a member of it is a victim, or an abort is on its way to a member
  pub record CycleDeclared (t : ℕ) : Type 0 where
    pub cycle : FirstApart (Edge R w) t t
    pub place : ℕ
    pub walk : Walk (Edge R w) t place
    pub how : VictimIn w place ⊎ AbortPending place

  pub record Coverage : Type 0 where
    -- where a senior session t waits for a live h, a probe of initiator t is stored at h or on its way there, or what makes the item send it again
    pub own-probe : (t x h : ℕ) → 1 ≤ x → x ≤ R.M → Queued w t x → HolderIs w x h → Live w h
        → R.senior t h ≡ true → 1 ≤ rebroadcast_due x h + cleans_from_queue x + probe_reaches t x h
    -- a probe that t stores, with an initiator senior to h, is stored at h or on its way there, or what makes t or the item send it again
    pub stored_forwarded : (t x h i : ℕ) → 1 ≤ x → x ≤ R.M → Queued w t x → HolderIs w x h → Live w h
        → R.senior i h ≡ true
        → stores w t i ≤ under_way t x h i + unless_cleaned (count_kind Kind.clean (w.up t x)) (probe_reaches i x h)
    -- a probe that t stores, with h itself as initiator, is on its way to the item where it is declared, or the cycle is declared
    pub initiator_or_declared : (t x h : ℕ) → 1 ≤ x → x ≤ R.M → Queued w t x → HolderIs w x h → Live w h
        → (stores w t h ≤ under_way t x h h) ⊎ CycleDeclared t
    -- behind a request goes every probe that the session stores
    pub stored-requested : (t x i : ℕ) → 1 ≤ x → x ≤ R.M → 1 ≤ count_kind Kind.request (w.up t x)
        → stores w t i ≤ fresh_probes i (behind_request (w.up t x))
    -- a victim stores no probe
    pub victim-stores-none : (t i : ℕ) → VictimIn w t → (w.session t).stored i ≡ 0
