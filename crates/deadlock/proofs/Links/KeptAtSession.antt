-- The link invariant through one message or call at a session: for its pair with any item.
use mathlib.Core.Path.{◌∙◌, ◌≡◌, ap, refl, sym}
use mathlib.Core.Bool.{Bool, cond, false, true}
use mathlib.Core.List.{[], ◌++◌, ◌∷◌, List}
use mathlib.Core.Logic.{◌≢◌}
use Prim.Native.Nat.{◌+◌, ◌≤◌, ℕ}
use native.Mathlib.Omega.{arith}
use lib.Dec.{eqb}
use borrow.Author.Tests.{eqb-true, ne_eqb}
use Rattle.lists.proofs.Tests.{by-test, eqb_self, same?}
use Rattle.deadlock.specs.Lists.{bit, occurs, one_to, updated}
use Rattle.deadlock.specs.Machine.{abort, accepted, Answer, clean, cleaning, cleared, down, grant, growing, held_by, is_live, is_news, Item, Message, on_abort, on_clean, on_grant, on_probe, on_release_call, on_request_call, on_resend, on_withdrawn, probe, rebroadcasts, refused, release, release_held, releasing, request, resend, rolled_back, Rules, Sends, Session, session_drops, session_receives, SessionStep, shrinking, Stage, stored_probes, store_probe, to_each, up, Upward, victim, waiting, withdraw, withdrawing, withdrawn}
use Rattle.message.specs.Kind
use Rattle.deadlock.specs.Counts.{count_behind, count_kind, sent_to}
use Rattle.deadlock.specs.Links.{awaits, doomed, Linked, view_of, withdraws}
use Rattle.deadlock.proofs.Laws.Lists.{bit-eqb, bit_le, occurs-oneTo, updated-other, updated-same}
use Rattle.deadlock.proofs.Laws.Routes.{countBehind-first, countBehind-le, countBehind-none, countKind-append}
use Rattle.deadlock.proofs.Laws.Counts.{up-kinds}
use Rattle.deadlock.proofs.Links.NeutralMessages.{all-neutral-nil, AllNeutral, linked_up, Neutral, neutral-abort, neutral-clean, neutral-nil, neutral-probe, neutral-resend, neutral-sends, neutral-toAwaited}

abbrev sessionOf : Stage → (ℕ → Bool) → (ℕ → ℕ) → Session
sessionOf s h f = record { stage = s; held = h; stored = f }

module _ (R : Rules) (t z : ℕ) (i : Item) (u d : List Message) where
  abbrev pub LinkedNow : Session → Type 0
  LinkedNow r = Linked (view_of t z r i u d)

  abbrev pub LinkedNext : SessionStep → Type 0
  LinkedNext o = Linked (view_of t z o.after i (u ++ sent_to z o.sends) d)

  -- a neutral message is taken
  drop-neutral : (m : Message) (r : Session) → Neutral (m ∷ []) → Linked (view_of t z r i u (m ∷ d)) → LinkedNow r
  drop-neutral m r q h = omega (arith, countKind-append Kind.grant (m ∷ []) d, countKind-append Kind.withdrawn (m ∷ []) d, countBehind-first Kind.withdrawn Kind.grant (m ∷ []) d q.no-withdrawn)

  -- and a message that is not for a session
  drop-upward : (m : Upward) (r : Session) → Linked (view_of t z r i u (up m ∷ d)) → LinkedNow r
  unfolding count_kind count_behind
  drop-upward m r h = let k = up-kinds m in omega (arith, ap bit k.no_grant, ap bit k.no-withdrawn, ap (λ (b : Bool). cond b (count_kind Kind.grant d) (count_behind Kind.withdrawn Kind.grant d)) k.no-withdrawn)

  same-stage : (r : Session) (out : Sends) → AllNeutral out → LinkedNow r → LinkedNext (record { after = r; sends = out })
  same-stage r out k h = linked_up t z r i u d (sent_to z out) (k.neutral-at z) h

  unchanged : (r : Session) → LinkedNow r → LinkedNext (session_drops r)
  unchanged r h = same-stage r [] all-neutral-nil h

  linked-storeProbe : (s : Stage) (g : ℕ → Bool) (f : ℕ → ℕ) (a j : ℕ) (out : Sends) → AllNeutral out → LinkedNow (sessionOf s g f)
      → LinkedNext (store_probe R (sessionOf s g f) a j out)
  unfolding store_probe
  linked-storeProbe s g f a j out k h = by-test LinkedNext (is_news R f a j) (λ e. same-stage (sessionOf s g (updated f a j)) out k h) (λ e. unchanged (sessionOf s g f) h)

  linked-probe : (s : Stage) (g : ℕ → Bool) (f : ℕ → ℕ) (a j : ℕ) → LinkedNow (sessionOf s g f) → LinkedNext (on_probe R t (sessionOf s g f) a j s)
  unfolding on_probe
  linked-probe s g f a j h = by-test LinkedNext (is_live s) (λ _. linked-storeProbe s g f a _ _ (neutral-toAwaited s a _) h) (λ _. unchanged (sessionOf s g f) h)

  linked-resend : (s : Stage) (g : ℕ → Bool) (f : ℕ → ℕ) (x : ℕ) → LinkedNow (sessionOf s g f) → LinkedNext (on_resend R x (sessionOf s g f) s)
  unfolding on_resend
  linked-resend growing g f x h = unchanged (sessionOf growing g f) h
  linked-resend (waiting y) g f x h = same-stage (sessionOf (waiting y) g f) _ (search neutral-sends) h
  linked-resend (victim p y) g f x h = unchanged (sessionOf (victim p y) g f) h
  linked-resend (releasing p) g f x h = unchanged (sessionOf (releasing p) g f) h

  linked-abort : (s : Stage) (g : ℕ → Bool) (f : ℕ → ℕ) (v j : ℕ) → LinkedNow (sessionOf s g f) → LinkedNext (on_abort R (sessionOf s g f) v j s)
  unfolding on_abort
  linked-abort growing g f v j h = unchanged (sessionOf growing g f) h
  linked-abort (waiting y) g f v j h = same-stage (sessionOf (victim cleaning y) g (λ (_ : ℕ). 0)) _ (search neutral-sends) (omega (arith, bit_le (held_by i.holder t)))
  linked-abort (victim p y) g f v j h = unchanged (sessionOf (victim p y) g f) h
  linked-abort (releasing p) g f v j h = unchanged (sessionOf (releasing p) g f) h

  linked-withdraw : (y : ℕ) (g : ℕ → Bool) (f : ℕ → ℕ) → Dec (y ≡ z) → LinkedNow (sessionOf (victim cleaning y) g f) → LinkedNext (record { after = sessionOf (victim withdrawing y) g f; sends = (y, up withdraw) ∷ [] })
  unfolding sent_to count_kind count_behind
  linked-withdraw y g f (yes q) h =
      let e : eqb y z ≡ true = rw q (eqb_self z) in
      let e' : eqb z y ≡ true = rw q (eqb_self z) in
      let c : count_kind Kind.withdraw u ≡ 0 = omega arith in
      rw e' (omega (
        arith,
        ap bit e,
        bit_le (held_by i.holder t),
        countKind-append Kind.request u (up withdraw ∷ []),
        countKind-append Kind.release u (up withdraw ∷ []),
        countKind-append Kind.withdraw u (up withdraw ∷ []),
        countBehind-first Kind.withdraw Kind.request u (up withdraw ∷ []) c,
      ))
  linked-withdraw y g f (no q) h =
      rw (ne_eqb z y (λ k. q (sym k))) (linked_up t z (sessionOf (victim withdrawing y) g f) i u d [] neutral-nil (omega (arith, ap bit (ne_eqb y z q))))

  linked-clean : (s : Stage) (g : ℕ → Bool) (f : ℕ → ℕ) (x v j : ℕ) → LinkedNow (sessionOf s g f) → LinkedNext (on_clean R t x (sessionOf s g f) v j s)
  unfolding on_clean cleared rebroadcasts
  linked-clean growing g f x v j h = same-stage (sessionOf growing g (λ (_ : ℕ). 0)) _ (search neutral-sends) h
  linked-clean (waiting y) g f x v j h = same-stage (sessionOf (waiting y) g (λ (_ : ℕ). 0)) _ (search neutral-sends) h
  linked-clean (victim cleaning y) g f x v j h = by-test LinkedNext (eqb v t) (λ e. linked-withdraw y g f (same? y z) h) (λ e. unchanged (sessionOf (victim cleaning y) g f) h)
  linked-clean (victim withdrawing y) g f x v j h = unchanged (sessionOf (victim withdrawing y) g f) h
  linked-clean (releasing p) g f x v j h = unchanged (sessionOf (releasing p) g f) h

  -- a grant from x, at the pair with x itself (z = x) and with any other item
  linked-grant : (s : Stage) (g : ℕ → Bool) (f : ℕ → ℕ) → Linked (view_of t z (sessionOf s g f) i u (down grant ∷ d)) → LinkedNext (on_grant R z (sessionOf s g f) s)
  unfolding on_grant count_kind count_behind
  linked-grant growing g f h = absurd (omega arith)
  linked-grant (releasing p) g f h = absurd (omega arith)
  linked-grant (waiting y) g f h =
      by-test LinkedNext (eqb y z)
      (λ e. same-stage (sessionOf growing (updated g z true) f) [] all-neutral-nil (rw updated-same (omega (arith, bit_le (held_by i.holder t), ap bit e))))
      (λ e. absurd (omega (arith, ap bit e)))
  linked-grant (victim p y) g f h = unchanged (sessionOf (victim p y) g f) (omega (arith, bit_le (held_by i.holder t)))

  linked-grant-elsewhere : (x : ℕ) → x ≢ z → (s : Stage) (g : ℕ → Bool) (f : ℕ → ℕ) → LinkedNow (sessionOf s g f) → LinkedNext (on_grant R x (sessionOf s g f) s)
  unfolding on_grant
  linked-grant-elsewhere x ne growing g f h = unchanged (sessionOf growing g f) h
  linked-grant-elsewhere x ne (releasing p) g f h = unchanged (sessionOf (releasing p) g f) h
  linked-grant-elsewhere x ne (waiting y) g f h =
      by-test LinkedNext (eqb y x)
      (λ e. same-stage (sessionOf growing (updated g x true) f) [] all-neutral-nil (rw (updated-other g x true z ne) (omega (arith, ap bit (ne_eqb y z (λ q. ne (sym (eqb-true y x e) ∙ q)))))))
      (λ e. unchanged (sessionOf (waiting y) g f) h)
  linked-grant-elsewhere x ne (victim p y) g f h = unchanged (sessionOf (victim p y) g f) h

-- what a session that is rolled back sends to one item: a release, if it holds it
module _ (R : Rules) (z : ℕ) (f : ℕ → Bool) where
  releases-only : (k : ℕ) → eqb Kind.release k ≡ false → (l : List ℕ) → count_kind k (sent_to z (to_each (up release) f l)) ≡ 0
  unfolding to_each sent_to count_kind
  releases-only k e [] = refl
  releases-only k e (y ∷ l) =
      by-test (λ (q : Sends). count_kind k (sent_to z q) ≡ 0) (f y)
      (λ _. by-test (λ (q : List Message). count_kind k q ≡ 0) (eqb z y) (λ _. omega (arith, ap bit e, releases-only k e l)) (λ _. releases-only k e l))
      (λ _. releases-only k e l)

  -- an item that is not z adds nothing
  releases-skip : (y : ℕ) (l : List ℕ) → y ≢ z → sent_to z (to_each (up release) f (y ∷ l)) ≡ sent_to z (to_each (up release) f l)
  unfolding to_each sent_to
  releases-skip y l q = by-test (λ (o : Sends). sent_to z o ≡ sent_to z (to_each (up release) f l)) (f y) (λ _. rw (ne_eqb z y (λ k. q (sym k)))) (λ _. refl)

  releases-held : f z ≡ true → (l : List ℕ) → count_kind Kind.release (sent_to z (to_each (up release) f l)) ≡ occurs z l
  unfolding to_each sent_to count_kind occurs
  releases-held e [] = refl
  releases-held e (y ∷ l) = cases (same? y z) (releases-held e l)
    where
      cases : Dec (y ≡ z) → count_kind Kind.release (sent_to z (to_each (up release) f l)) ≡ occurs z l
          → count_kind Kind.release (sent_to z (to_each (up release) f (y ∷ l))) ≡ bit (eqb y z) + occurs z l
      cases (yes q) ih = rw (q, e, eqb_self) (omega arith)
      cases (no q) ih = rw (releases-skip y l q, ne_eqb y z q) (omega arith)

  releases-not-held : f z ≡ false → (l : List ℕ) → count_kind Kind.release (sent_to z (to_each (up release) f l)) ≡ 0
  unfolding to_each sent_to count_kind occurs
  releases-not-held e [] = refl
  releases-not-held e (y ∷ l) = cases (same? y z) (releases-not-held e l)
    where
      cases : Dec (y ≡ z) → count_kind Kind.release (sent_to z (to_each (up release) f l)) ≡ 0 → count_kind Kind.release (sent_to z (to_each (up release) f (y ∷ l))) ≡ 0
      cases (yes q) ih = rw (q, e) ih
      cases (no q) ih = rw (releases-skip y l q) ih

  pub releases-one : (l : List ℕ) → occurs z l ≡ 1 → count_kind Kind.release (sent_to z (to_each (up release) f l)) ≡ bit (f z)
  releases-one l o = cases (f z) refl
    where
      cases : (b : Bool) → f z ≡ b → count_kind Kind.release (sent_to z (to_each (up release) f l)) ≡ bit b
      cases true e = omega (arith, releases-held e l)
      cases false e = releases-not-held e l

module _ (R : Rules) (t z : ℕ) (i : Item) (u d : List Message) where
  linked-rolledBack : (y : ℕ) (g : ℕ → Bool) (f : ℕ → ℕ) → 1 ≤ z → z ≤ R.M
      → (count_kind Kind.request u + occurs t i.queue + count_kind Kind.grant d + count_kind Kind.withdraw u + count_kind Kind.withdrawn d + count_behind Kind.withdraw
      Kind.request u + count_behind Kind.withdrawn Kind.grant d ≡ 0) × (bit (g z) + count_kind Kind.release u ≤ bit (held_by i.holder t))
      → LinkedNext R t z i u d (record { after = record { stage = releasing rolled_back; held = λ (_ : ℕ). false; stored = f }; sends = to_each (up release) g (one_to R.M) })
  linked-rolledBack y g f lo hi p =
      let o = to_each (up release) g (one_to R.M) in
      omega (
        arith,
        p.0,
        p.1,
        releases-one R z g (one_to R.M) (occurs-oneTo R.M z lo hi),
        releases-only R z g Kind.request refl (one_to R.M),
        releases-only R z g Kind.withdraw refl (one_to R.M),
        countKind-append Kind.request u (sent_to z o),
        countKind-append Kind.release u (sent_to z o),
        countKind-append Kind.withdraw u (sent_to z o),
        bit_le (held_by i.holder t),
        countBehind-none Kind.withdraw Kind.request u (sent_to z o) (releases-only R z g Kind.request refl (one_to R.M)),
      )

  -- the answer to a withdraw: at the item that sent it, and at any other
  linked-withdrawn : (s : Stage) (g : ℕ → Bool) (f : ℕ → ℕ) → 1 ≤ z → z ≤ R.M → Linked (view_of t z (sessionOf s g f) i u (down withdrawn ∷ d))
      → LinkedNext R t z i u d (on_withdrawn R (sessionOf s g f) s)
  unfolding on_withdrawn count_kind count_behind
  linked-withdrawn growing g f lo hi h = absurd (omega arith)
  linked-withdrawn (waiting y) g f lo hi h = absurd (omega arith)
  linked-withdrawn (victim cleaning y) g f lo hi h = absurd (omega arith)
  linked-withdrawn (victim withdrawing y) g f lo hi h = linked-rolledBack y g f lo hi (omega (arith, countBehind-le Kind.withdrawn Kind.grant d))
  linked-withdrawn (releasing p) g f lo hi h = absurd (omega arith)

  linked-withdrawn-elsewhere : (x : ℕ) → x ≢ z → (s : Stage) (g : ℕ → Bool) (f : ℕ → ℕ) → 1 ≤ z → z ≤ R.M → 1 ≤ withdraws s x
      → LinkedNow R t z i u d (sessionOf s g f) → LinkedNext R t z i u d (on_withdrawn R (sessionOf s g f) s)
  unfolding on_withdrawn
  linked-withdrawn-elsewhere x ne growing g f lo hi w h = absurd (omega arith)
  linked-withdrawn-elsewhere x ne (waiting y) g f lo hi w h = absurd (omega arith)
  linked-withdrawn-elsewhere x ne (victim cleaning y) g f lo hi w h = absurd (omega arith)
  linked-withdrawn-elsewhere x ne (victim withdrawing y) g f lo hi w h = linked-rolledBack y g f lo hi (let e : eqb y z ≡ false = ne_eqb y z (λ q. ne (sym (bit-eqb y x w) ∙ q)) in omega (arith, ap bit e))
  linked-withdrawn-elsewhere x ne (releasing p) g f lo hi w h = absurd (omega arith)

  -- ---- the calls
  abbrev pub LinkedAnswer : Session → Answer → Type 0
  LinkedAnswer r refused = LinkedNow R t z i u d r
  LinkedAnswer r (accepted o) = LinkedNext R t z i u d o

  linked-request-call : (s : Stage) (g : ℕ → Bool) (f : ℕ → ℕ) → LinkedNow R t z i u d (sessionOf s g f)
      → LinkedAnswer (sessionOf s g f) (on_request_call R z (sessionOf s g f) s)
  unfolding on_request_call sent_to count_kind count_behind
  linked-request-call growing g f h =
      by-test (LinkedAnswer (sessionOf growing g f)) (g z)
      (λ e. h)
      (λ e.
      let mu : AllNeutral (stored_probes R (sessionOf growing g f) z) = search neutral-sends in
      let m = mu.neutral-at z in
      let q = up request ∷ sent_to z (stored_probes R (sessionOf growing g f) z) in
      rw eqb_self (omega (
        arith,
        ap bit e,
        ap bit (eqb_self z),
        countKind-append Kind.request u q,
        countKind-append Kind.release u q,
        countKind-append Kind.withdraw u q,
        countBehind-first
            Kind.withdraw Kind.request u q (omega arith),
        countBehind-le Kind.withdraw Kind.request (sent_to z (stored_probes R (sessionOf growing g f) z)),
      )))
  linked-request-call (waiting y) g f h = h
  linked-request-call (victim p y) g f h = h
  linked-request-call (releasing p) g f h = h

  linked-request-elsewhere : (x : ℕ) → x ≢ z → (s : Stage) (g : ℕ → Bool) (f : ℕ → ℕ) → LinkedNow R t z i u d (sessionOf s g f)
      → LinkedAnswer (sessionOf s g f) (on_request_call R x (sessionOf s g f) s)
  unfolding on_request_call sent_to
  linked-request-elsewhere x ne growing g f h =
      by-test (LinkedAnswer (sessionOf growing g f)) (g x)
      (λ e. h)
      (λ e.
      let mu : AllNeutral (stored_probes R (sessionOf growing g f) x) = search neutral-sends in
      rw (ne_eqb z x (λ q. ne (sym q))) (linked_up t z (sessionOf (waiting x) g f) i u d _ (mu.neutral-at z) (omega (arith, bit_le (g z), ap bit (ne_eqb x z ne)))))
  linked-request-elsewhere x ne (waiting y) g f h = h
  linked-request-elsewhere x ne (victim p y) g f h = h
  linked-request-elsewhere x ne (releasing p) g f h = h

  -- a release, from growing or shrinking, which an item sees alike
  linked-releaseHeld : (s : Stage) (g : ℕ → Bool) (f : ℕ → ℕ) → awaits s z ≡ 0 → doomed s ≡ 0 → withdraws s z ≡ 0
      → LinkedNow R t z i u d (sessionOf s g f) → LinkedAnswer (sessionOf s g f) (release_held R z (sessionOf s g f))
  unfolding release_held sent_to count_kind count_behind
  linked-releaseHeld s g f a b c h =
      by-test (LinkedAnswer (sessionOf s g f)) (g z)
      (λ e. rw (eqb_self, updated-same) (omega (
        arith,
        ap bit e,
        bit_le (held_by i.holder t),
        countKind-append Kind.request u (up release ∷ []),
        countKind-append Kind.release u (up release ∷ []),
        countKind-append Kind.withdraw u (up release ∷ []),
        countBehind-none Kind.withdraw Kind.request u (up release ∷ []) refl,
      )))
      (λ e. h)

  linked-releaseHeld-elsewhere : (x : ℕ) → x ≢ z → (s : Stage) (g : ℕ → Bool) (f : ℕ → ℕ) → awaits s z ≡ 0 → doomed s ≡ 0
      → withdraws s z ≡ 0 → LinkedNow R t z i u d (sessionOf s g f) → LinkedAnswer (sessionOf s g f) (release_held R x (sessionOf s g f))
  unfolding release_held sent_to
  linked-releaseHeld-elsewhere x ne s g f a b c h =
      by-test (LinkedAnswer (sessionOf s g f)) (g x)
      (λ e. rw (ne_eqb z x (λ q. ne (sym q))) (linked_up t z (sessionOf (releasing shrinking) (updated g x false) (λ (_ : ℕ). 0)) i u d [] neutral-nil (rw (updated-other g x false z ne) (omega (arith, bit_le (g z), bit_le (held_by i.holder t))))))
      (λ e. h)

  linked-release-call : (s : Stage) (g : ℕ → Bool) (f : ℕ → ℕ) → LinkedNow R t z i u d (sessionOf s g f)
      → LinkedAnswer (sessionOf s g f) (on_release_call R z (sessionOf s g f) s)
  unfolding on_release_call
  linked-release-call growing g f h = linked-releaseHeld growing g f refl refl refl h
  linked-release-call (waiting y) g f h = h
  linked-release-call (victim p y) g f h = h
  linked-release-call (releasing shrinking) g f h = linked-releaseHeld (releasing shrinking) g f refl refl refl h
  linked-release-call (releasing rolled_back) g f h = h

  linked-release-elsewhere : (x : ℕ) → x ≢ z → (s : Stage) (g : ℕ → Bool) (f : ℕ → ℕ) → LinkedNow R t z i u d (sessionOf s g f)
      → LinkedAnswer (sessionOf s g f) (on_release_call R x (sessionOf s g f) s)
  unfolding on_release_call
  linked-release-elsewhere x ne growing g f h = linked-releaseHeld-elsewhere x ne growing g f refl refl refl h
  linked-release-elsewhere x ne (waiting y) g f h = h
  linked-release-elsewhere x ne (victim p y) g f h = h
  linked-release-elsewhere x ne (releasing shrinking) g f h = linked-releaseHeld-elsewhere x ne (releasing shrinking) g f refl refl refl h
  linked-release-elsewhere x ne (releasing rolled_back) g f h = h

  -- ---- both calls and all messages, at the pair with the item itself and with another
  pub request-call-linked : (x : ℕ) (r : Session) → LinkedNow R t z i u d r → LinkedAnswer r (on_request_call R x r r.stage)
  request-call-linked x r h = elim (same? x z) [ yes q ↦ rw q (linked-request-call r.stage r.held r.stored h) | no q ↦ linked-request-elsewhere x q r.stage r.held r.stored h ]

  pub release-call-linked : (x : ℕ) (r : Session) → LinkedNow R t z i u d r → LinkedAnswer r (on_release_call R x r r.stage)
  release-call-linked x r h = elim (same? x z) [ yes q ↦ rw q (linked-release-call r.stage r.held r.stored h) | no q ↦ linked-release-elsewhere x q r.stage r.held r.stored h ]

  pub receives-linked : (m : Message) (r : Session) → 1 ≤ z → z ≤ R.M → Linked (view_of t z r i u (m ∷ d)) → LinkedNext R t z i u d (session_receives R t z r m)
  unfolding session_receives count_kind count_behind
  receives-linked (up m) r lo hi h = unchanged R t z i u d r (drop-upward R t z i u d m r h)
  receives-linked (down grant) r lo hi h = linked-grant R t z i u d r.stage r.held r.stored h
  receives-linked (down resend) r lo hi h = linked-resend R t z i u d r.stage r.held r.stored z (drop-neutral R t z i u d (down resend) r neutral-resend h)
  receives-linked (down withdrawn) r lo hi h = linked-withdrawn r.stage r.held r.stored lo hi h
  receives-linked (probe a b) r lo hi h = linked-probe R t z i u d r.stage r.held r.stored a b (drop-neutral R t z i u d (probe a b) r (neutral-probe a b) h)
  receives-linked (clean a b) r lo hi h = linked-clean R t z i u d r.stage r.held r.stored z a b (drop-neutral R t z i u d (clean a b) r (neutral-clean a b) h)
  receives-linked (abort a b) r lo hi h = linked-abort R t z i u d r.stage r.held r.stored a b (drop-neutral R t z i u d (abort a b) r (neutral-abort a b) h)

  pub receives-linked-elsewhere : (x : ℕ) → x ≢ z → (m : Message) (r : Session) → 1 ≤ z → z ≤ R.M
      → count_kind Kind.withdrawn (m ∷ []) ≤ withdraws r.stage x → LinkedNow R t z i u d r → LinkedNext R t z i u d (session_receives R t x r m)
  unfolding session_receives count_kind
  receives-linked-elsewhere x ne (up m) r lo hi w h = unchanged R t z i u d r h
  receives-linked-elsewhere x ne (down grant) r lo hi w h = linked-grant-elsewhere R t z i u d x ne r.stage r.held r.stored h
  receives-linked-elsewhere x ne (down resend) r lo hi w h = linked-resend R t z i u d r.stage r.held r.stored x h
  receives-linked-elsewhere x ne (down withdrawn) r lo hi w h = linked-withdrawn-elsewhere x ne r.stage r.held r.stored lo hi w h
  receives-linked-elsewhere x ne (probe a b) r lo hi w h = linked-probe R t z i u d r.stage r.held r.stored a b h
  receives-linked-elsewhere x ne (clean a b) r lo hi w h = linked-clean R t z i u d r.stage r.held r.stored x a b h
  receives-linked-elsewhere x ne (abort a b) r lo hi w h = linked-abort R t z i u d r.stage r.held r.stored a b h
