-- What a well-formed session record gives, fact by fact, and how one is made.
use mathlib.Core.Path.{◌≡◌, refl}
use mathlib.Core.Bool.{true, cond}
use Prim.Native.Nat.{ℕ, ◌^◌, ◌≤◌, ◌<◌}
use native.Mathlib.Omega.{arith}
use lib.Dec.{eqb, leb, ltb}
use lib.ListN.{length, take, drop, replicate, length-replicate}
use lib.Pow.{pow_pos, pow_mono}
use borrow.Author.Tests.{le-leb, lt-ltb, ltb-true}
use Rattle.lists.specs.Lists.{between, all_of}
use Rattle.lists.proofs.Laws.{all_drop, all_replicate, all_take}
use Rattle.lists.proofs.Tests.{and_both, and_intro, between_intro, within}
use Rattle.message.specs.Limits.{max_sessions, max_items}
use Rattle.session.specs.declared.Session.{Session}
use Rattle.session.specs.Stage
use Rattle.session.specs.Record.{well_formed, none, fresh}

-- a session's record, of S sessions and M items
pub record SessionWellFormed (S M : ℕ) (s : Session) : Type 0 where
  pub stage-low : 1 ≤ s.stage
  pub stage-high : s.stage ≤ 6
  pub awaited : cond (Stage.awaits s.stage) (between 1 M s.awaited) (eqb s.awaited 0) ≡ true
  pub held : s.held < 2 ^ M
  pub juniors : all_of (λ j. leb j S) (take S s.juniors) ≡ true
  pub zeros : all_of (λ j. eqb j 0) (drop S s.juniors) ≡ true

module _ (S M : ℕ) where
  module _ (s : Session) where
    pub session-facts : well_formed S M s ≡ true → SessionWellFormed S M s
    unfolding well_formed
    session-facts w =
        let e = and_both _ (all_of (λ j. eqb j 0) (drop S s.juniors)) w in
        let d = and_both _ (all_of (λ j. leb j S) (take S s.juniors)) e.0 in
        let c = and_both _ (ltb s.held (2 ^ M)) d.0 in
        let b = and_both _ (cond (Stage.awaits s.stage) (between 1 M s.awaited) (eqb s.awaited 0)) c.0 in
        record {
          stage-low = (within 1 6 s.stage b.0).0;
          stage-high = (within 1 6 s.stage b.0).1;
          awaited = b.1;
          held = ltb-true s.held (2 ^ M) c.1;
          juniors = d.1;
          zeros = e.1;
        }

    pub session-formed : SessionWellFormed S M s → well_formed S M s ≡ true
    unfolding well_formed
    session-formed f =
        and_intro (and_intro (and_intro (and_intro (between_intro 1 6 s.stage f.stage-low f.stage-high) f.awaited) (lt-ltb s.held (2 ^ M) f.held)) f.juniors) f.zeros

    -- the held items fit eight bytes
    pub held_fits : M ≤ max_items → well_formed S M s ≡ true → s.held < 2 ^ 64
    held_fits h w = omega (arith, (session-facts w).held, pow_mono {i = M} {j = 64} h)

  -- no stored probe
  pub none-juniors : all_of (λ j. leb j S) (take S none) ≡ true
  none-juniors = all_take (λ j. leb j S) S (replicate max_sessions 0) (all_replicate (λ j. leb j S) max_sessions 0 (le-leb 0 S (omega arith)))

  pub none-zeros : all_of (λ j. eqb j 0) (drop S none) ≡ true
  none-zeros = all_drop (λ j. eqb j 0) S (replicate max_sessions 0) (all_replicate (λ j. eqb j 0) max_sessions 0 refl)

  -- every session of a lock manager that was just started
  pub fresh-formed : well_formed S M fresh ≡ true
  fresh-formed = session-formed fresh (record { stage-low = omega arith; stage-high = omega arith; awaited = refl; held = pow_pos M; juniors = none-juniors; zeros = none-zeros })

pub none-length : length none ≡ max_sessions
none-length = length-replicate {A = ℕ} max_sessions 0
