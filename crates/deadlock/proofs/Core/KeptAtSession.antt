-- Every message at a session and both its calls keep the clauses on victims and on probes.
use mathlib.Core.Path.{◌∙◌, ◌≡◌, ap, refl, subst, sym}
use mathlib.Core.Bool.{Bool, cond, false≢true, true}
use mathlib.Core.List.{[], ◌∷◌, List}
use mathlib.Core.Logic.{◌≢◌, ◌⊎◌, inl, inr}
use Prim.Native.Nat.{◌+◌, ◌≤◌, ℕ}
use native.Mathlib.Omega.{arith}
use lib.Dec.{eqb}
use borrow.Author.Tests.{eqb-false, eqb-true}
use Rattle.lists.proofs.Tests.{by-test, eqb_self, same?}
use Rattle.deadlock.specs.Lists.{bit, one_to, updated}
use Rattle.deadlock.specs.Machine.{abort, accepted, Answer, clean, cleaning, cleared, down, grant, growing, is_live, is_news, junior, Laws, Message, on_abort, on_clean, on_grant, on_probe, on_release_call, on_request_call, on_resend, on_withdrawn, probe, probes_from, rebroadcasts, refused, release, release_held, releasing, resend, rolled_back, Rules, Sends, session_drops, session_receives, SessionStep, shrinking, Stage, stored_probes, store_probe, up, victim, waiting, withdraw, withdrawing, withdrawn}
use Rattle.message.specs.Kind
use Rattle.deadlock.specs.Counts.{clean_of, cleans_of, cleans_sent, count_kind, EachBehind, Every, every-cons, every-nil}
use Rattle.deadlock.specs.Walks.{onward}
use Rattle.deadlock.specs.World.{AbortTo, CleanUnderWay, CycleMate, CycleOf, Edge, is_cleaning, is_victim, is_waiting, Known, Live, Mail, OfAbort, Probes, stage_of, TellsDown, VictimIn, Victims, World}
use Rattle.deadlock.proofs.Laws.Lists.{updated-other, updated-same}
use Rattle.deadlock.proofs.Laws.Stages.{stage-facts}
use Rattle.deadlock.proofs.Laws.Counts.{AllTell, allTell-toAwaited, behind-head, behind-tail, cleansOf-sentTo, cleansSent-probesFrom, cleansSent-rebroadcasts, cleansSent-toAwaited, cleansSent-toEach, every-head, every_map, ofProbe-map}
use Rattle.deadlock.proofs.Victims.OneOnCycle.{no-grant-queued, victim-of-down}
use Rattle.deadlock.proofs.Probes.OthersStay.{every-taken, SessionSends, SessionTakes, worldAfterSession}
use Rattle.deadlock.proofs.Probes.KeptByPlainSteps.{plain-probes, probe-heard, StoredTold}
use Rattle.deadlock.proofs.Probes.KeptByAbortAndClean.{abort-probes, member-probes, no-probe-rebroadcasts, no-probe-toEach, NoProbe, return-probes}
use Rattle.deadlock.proofs.Victims.EdgesStay.{plain-victims}
use Rattle.deadlock.proofs.Victims.KeptByAbortAndClean.{abort-victims, member-victims, return-victims}

no-probe-allTell : (K : ℕ → ℕ → Type 0) {l : Sends} → NoProbe l → AllTell K l
unfolding AllTell
no-probe-allTell K h = every_map (λ p k. ofProbe-map (λ i j. absurd) p.1 k) h

module _ {R : Rules} (L : Laws R) {w : World} (known : Known R w) (t : ℕ) (mail : Mail) where
  abbrev pub SessionDone : SessionStep → Type 0
  SessionDone o = Probes R (worldAfterSession w t o.after mail) × Victims R (worldAfterSession w t o.after mail)

  -- the messages down to t: nothing is taken, or the head is taken and is no clean
  record DownKept : Type 1 where
    pub cleans-same : (v z : ℕ) → cleans_of v (w.down t z) ≡ cleans_of v (mail.down t z)
    pub behind-kept : (Q : Message → List Message → Type 0) (z : ℕ) → EachBehind Q (w.down t z) → EachBehind Q (mail.down t z)
    pub every-kept : (Q : Message → Type 0) (z : ℕ) → Every Q (w.down t z) → Every Q (mail.down t z)

  -- a step that moves no clean and makes no victim
  record PlainStep (o : SessionStep) : Type 0 where
    pub victim-le : is_victim o.after.stage ≤ is_victim (stage_of w t)
    pub cleaning-same : is_cleaning o.after.stage ≡ is_cleaning (stage_of w t)
    pub keep : (h : ℕ) → Edge R w t h → 1 ≤ is_waiting (stage_of w t) → 1 ≤ is_waiting o.after.stage
    pub abort-kept : AbortTo R w t (stage_of w t) → AbortTo R w t o.after.stage
    pub none_of : (v : ℕ) → cleans_sent v o.sends ≡ 0
    pub victim-silent : 1 ≤ is_victim o.after.stage → o.sends ≡ []
    pub live-before : is_live o.after.stage ≡ true → Live w t
    pub stores : Probes R w → is_live o.after.stage ≡ true → (i : ℕ) → o.after.stored i ≢ 0 → StoredTold R w t i (o.after.stored i)
    pub sent : Probes R w → AllTell (StoredTold R w t) o.sends

  plain-both : (o : SessionStep) → SessionSends w t o.sends mail → DownKept → ((v : ℕ) → mail.total v ≡ w.total v + cleans_sent v o.sends) → PlainStep o
      → Probes R w → SessionDone o
  plain-both o acts q tots k h = (
    plain-probes L known o acts q.cleans-same k.victim-le q.behind-kept k.live-before (k.stores h) (k.sent h) h,
    plain-victims L known o acts k.victim-le k.cleaning-same k.keep k.abort-kept (λ v. omega (arith, tots v, k.none_of v)) k.none_of k.victim-silent q.cleans-same (λ z. q.every-kept _ z),
  )

  -- the stage stays
  plain-stay : (g : ℕ → Bool) (f : ℕ → ℕ) (out : Sends) → ((v : ℕ) → cleans_sent v out ≡ 0) → (VictimIn w t → out ≡ [])
      → (Probes R w → Live w t → (i : ℕ) → f i ≢ 0 → StoredTold R w t i (f i)) → (Probes R w → AllTell (StoredTold R w t) out)
      → PlainStep (record { after = record { stage = (w.session t).stage; held = g; stored = f }; sends = out })
  plain-stay g f out z nl ss sn = record { victim-le = omega arith; cleaning-same = refl; keep = λ h e k. k; abort-kept = λ k. k; none_of = z; victim-silent = nl; live-before = λ l. l; stores = ss; sent = sn }

  plain-dropped : PlainStep (session_drops (w.session t))
  unfolding AllTell cleans_sent
  plain-dropped = plain-stay (w.session t).held (w.session t).stored [] (λ v. refl) (λ _. refl) (λ h l i ne. h.stored-true t l i ne) (λ _. every-nil)

  allTell-stored : Probes R w → Live w t → (y : ℕ) (l : List ℕ) → AllTell (StoredTold R w t) (probes_from (w.session t).stored y l)
  unfolding AllTell probes_from
  allTell-stored h l y [] = every-nil
  allTell-stored h l y (i ∷ k) =
      by-test (AllTell (StoredTold R w t)) (eqb ((w.session t).stored i) 0) (λ e. allTell-stored h l y k) (λ e. every-cons (h.stored-true t l i (eqb-false ((w.session t).stored i) 0 e)) (allTell-stored h l y k))

  -- ---- a message
  module _ (x : ℕ) (lo : 1 ≤ x) (hi : x ≤ R.M) where
    abbrev pub SessionHeard : Message → SessionStep → Type 0
    SessionHeard m o = SessionSends w t o.sends mail → SessionTakes w t x m mail → ((v : ℕ) → mail.total v + clean_of v m ≡ w.total v + cleans_sent v o.sends) → Probes R w → SessionDone o

    taken-down-kept : (m : Message) → ((v : ℕ) → clean_of v m ≡ 0) → SessionTakes w t x m mail → DownKept
    unfolding cleans_of
    taken-down-kept m z hr = record {
      cleans-same = λ v y. elim (same? x y) [ yes q ↦ rw (← q) (omega (arith, z v, ap (cleans_of v) hr.head)) | no q ↦ ap (cleans_of v) (sym (hr.down-else y q)) ];
      behind-kept = λ Q y h. elim (same? x y) [ yes q ↦ (let k : EachBehind Q (w.down t x) = rw q h in let k2 : EachBehind Q (mail.down t x) = behind-tail (rw hr.head at k) in rw (← q) k2) | no q ↦ rw (hr.down-else y q) h ];
      every-kept = λ Q y h. every-taken hr y h;
    }

    taken-plain : (m : Message) → ((v : ℕ) → clean_of v m ≡ 0) → (o : SessionStep) → PlainStep o → SessionHeard m o
    taken-plain m z o k acts hr tots h = plain-both o acts (taken-down-kept m z hr) (λ v. omega (arith, tots v, z v)) k h

    taken-dropped : (m : Message) → ((v : ℕ) → clean_of v m ≡ 0) → SessionHeard m (session_drops (w.session t))
    taken-dropped m z = taken-plain m z (session_drops (w.session t)) plain-dropped

    heard-grant : (s : Stage) → (w.session t).stage ≡ s → SessionHeard (down grant) (on_grant R x (w.session t) s)
    unfolding on_grant AbortTo cleans_sent AllTell
    heard-grant growing e = taken-dropped (down grant) (λ v. refl)
    heard-grant (waiting y) e = by-test (SessionHeard (down grant)) (eqb y x)
        (λ q acts hr. taken-plain (down grant) (λ v. refl) _ (record {
          victim-le = omega arith;
          cleaning-same = sym (ap is_cleaning e);
          keep = λ h k. absurd (no-grant-queued known.links lo hi hr.head h k);
          abort-kept = λ k. let r : CycleOf R w t (λ u. R.senior u t ≡ true) = subst (AbortTo R w t) e k in no-grant-queued known.links lo hi hr.head r.cycle.next r.cycle.out;
          none_of = λ v. refl;
          victim-silent = λ s. refl;
          live-before = λ _. ap is_live e;
          stores = λ h l i ne. h.stored-true t (ap is_live e) i ne;
          sent = λ _. every-nil;
        }) acts hr) (λ q. taken-dropped (down grant) (λ v. refl))
    heard-grant (victim p y) e = taken-dropped (down grant) (λ v. refl)
    heard-grant (releasing p) e = taken-dropped (down grant) (λ v. refl)

    -- what a probe tells the session
    probe-tells : (i j : ℕ) → SessionTakes w t x (probe i j) mail → Probes R w → Live w t → StoredTold R w t i (junior R j t)
    unfolding count_kind
    probe-tells i j hr h l =
        let k : EachBehind (TellsDown R w t x) (w.down t x) = h.down-true t x l in
        let k2 : EachBehind (TellsDown R w t x) (probe i j ∷ mail.down t x) = rw hr.head at k in
        probe-heard L known i j t x (mail.down t x) (omega (arith, ap (count_kind Kind.clean) hr.head)) (behind-head k2)

    stored-told : (i j : ℕ) (f : ℕ → ℕ) → StoredTold R w t i j → ((k : ℕ) → f k ≢ 0 → StoredTold R w t k (f k)) → (k : ℕ) → updated f i j k ≢ 0
        → StoredTold R w t k (updated f i j k)
    stored-told i j f c h k ne = elim (same? i k) [ yes q ↦ rw (← q, updated-same) c | no q ↦ rw (updated-other f i j k q) (h k (λ z. ne (updated-other f i j k q ∙ z))) ]

    heard-storeProbe : (i j : ℕ) (out : Sends) → Live w t → ((v : ℕ) → cleans_sent v out ≡ 0)
        → (StoredTold R w t i (junior R j t) → AllTell (StoredTold R w t) out) → SessionHeard (probe i j) (store_probe R (w.session t) i (junior R j t) out)
    unfolding store_probe
    heard-storeProbe i j out l z sn = by-test (SessionHeard (probe i j)) (is_news R (w.session t).stored i (junior R j t))
        (λ _ acts hr ts h. taken-plain (probe i j) (λ v. refl) _ (plain-stay (w.session t).held (updated (w.session t).stored i (junior R j t)) out z (λ s. absurd (omega (arith, s, stage-facts (stage_of w t), ap bit l)))
        (λ h l. stored-told i (junior R j t) (w.session t).stored (probe-tells i j hr h l) (h.stored-true t l)) (λ h. sn (probe-tells i j hr h l))) acts hr ts h)
        (λ _. taken-dropped (probe i j) (λ v. refl))

    heard-probe : (i j : ℕ) (s : Stage) → (w.session t).stage ≡ s → SessionHeard (probe i j) (on_probe R t (w.session t) i j s)
    unfolding on_probe
    heard-probe i j s e = by-test (SessionHeard (probe i j)) (is_live s)
        (λ l. heard-storeProbe i j _ (ap is_live e ∙ l) (λ v. cleansSent-toAwaited v s i (junior R j t)) (allTell-toAwaited (StoredTold R w t) s i (junior R j t)))
        (λ _. taken-dropped (probe i j) (λ v. refl))

    heard-resend : (s : Stage) → (w.session t).stage ≡ s → SessionHeard (down resend) (on_resend R x (w.session t) s)
    unfolding on_resend stored_probes cleans_sent AllTell
    heard-resend growing e = taken-dropped (down resend) (λ v. refl)
    heard-resend (waiting y) e = taken-plain (down resend) (λ v. refl) _ (plain-stay (w.session t).held (w.session t).stored (cond (eqb y x) (stored_probes R (w.session t) x) [])
        (λ v. by-test (λ (q : Sends). cleans_sent v q ≡ 0) (eqb y x) (λ _. cleansSent-probesFrom v (w.session t).stored x (one_to R.S)) (λ _. refl)) (λ s. absurd (omega (arith, s, ap is_victim e))) (λ h l. h.stored-true t l)
        (λ h. by-test (AllTell (StoredTold R w t)) (eqb y x) (λ _. allTell-stored h (ap is_live e) x (one_to R.S)) (λ _. every-nil)))
    heard-resend (victim p y) e = taken-dropped (down resend) (λ v. refl)
    heard-resend (releasing p) e = taken-dropped (down resend) (λ v. refl)

    heard-withdrawn : (s : Stage) → (w.session t).stage ≡ s → SessionHeard (down withdrawn) (on_withdrawn R (w.session t) s)
    unfolding on_withdrawn AbortTo
    heard-withdrawn growing e = taken-dropped (down withdrawn) (λ v. refl)
    heard-withdrawn (waiting y) e = taken-dropped (down withdrawn) (λ v. refl)
    heard-withdrawn (victim cleaning y) e = taken-dropped (down withdrawn) (λ v. refl)
    heard-withdrawn (victim withdrawing y) e = taken-plain (down withdrawn) (λ v. refl) _ (record {
      victim-le = omega arith;
      cleaning-same = sym (ap is_cleaning e);
      keep = λ h k s. absurd (omega (arith, s, ap is_waiting e));
      abort-kept = λ _. tt;
      none_of = λ v. cleansSent-toEach v (up release) refl (w.session t).held (one_to R.M);
      victim-silent = λ s. absurd (omega arith);
      live-before = λ l. absurd (false≢true l);
      stores = λ h l. absurd (false≢true l);
      sent = λ _. no-probe-allTell (StoredTold R w t) (no-probe-toEach (up release) tt (w.session t).held (one_to R.M));
    })
    heard-withdrawn (releasing p) e = taken-dropped (down withdrawn) (λ v. refl)

    -- ---- abort
    heard-abort : (v i : ℕ) (s : Stage) → (w.session t).stage ≡ s → SessionHeard (abort v i) (on_abort R (w.session t) v i s)
    unfolding on_abort AbortTo
    heard-abort v i growing e acts hr ts h = taken-dropped (abort v i) (λ _. refl) acts hr ts h
    heard-abort v i (waiting y) e acts hr ts h = subst P (sym z.0) (λ acts hr ts. (abort-probes L known t x mail i y _ _ e cycle.cycle acts hr h, abort-victims L known t x mail i y _ _ e cycle acts hr ts)) acts hr ts
      where
        o : ℕ → SessionStep
        o v = record { after = record { stage = victim cleaning y; held = (w.session t).held; stored = λ (_ : ℕ). 0 }; sends = (y, clean v i) ∷ [] }

        P : ℕ → Type 0
        P v = SessionSends w t (o v).sends mail → SessionTakes w t x (abort v i) mail → ((u : ℕ) → mail.total u + 0 ≡ w.total u + cleans_sent u (o v).sends) → SessionDone (o v)

        z : (v ≡ t) × AbortTo R w t (stage_of w t)
        z = let k : Every (OfAbort R w t) (abort v i ∷ mail.down t x) = rw hr.head at (known.victims.aborts t x) in every-head k

        cycle : CycleOf R w t (λ u. R.senior u t ≡ true)
        cycle = subst (AbortTo R w t) e z.1
    heard-abort v i (victim p y) e acts hr ts h = taken-dropped (abort v i) (λ _. refl) acts hr ts h
    heard-abort v i (releasing p) e acts hr ts h = taken-dropped (abort v i) (λ _. refl) acts hr ts h

    -- ---- clean: it finds its victim, or a member that waits
    clean-where : (v i : ℕ) → SessionTakes w t x (clean v i) mail → ((t ≡ v) × CleanUnderWay w t) ⊎ (1 ≤ is_waiting (stage_of w t))
    unfolding cleans_of
    clean-where v i hr =
        let has : 1 ≤ cleans_of v (w.down t x) = omega (arith, ap (cleans_of v) hr.head, ap bit (eqb_self v)) in
        let s = victim-of-down known v t x has in
        let c = known.victims.clean-down-on-cycle v t x has in
        let k = known.victims.victim-waits v s in
        cases s ((known.victims.victim-on-cycle v k.0 (omega (arith, s, stage-facts (stage_of w v))) k.1).others t (onward c.walk (record { item = x; low = c.low; high = c.high; stands = c.stands; held = c.held })))
      where
        cases : CleanUnderWay w v → (t ≡ v) ⊎ CycleMate R w v t → ((t ≡ v) × CleanUnderWay w t) ⊎ (1 ≤ is_waiting (stage_of w t))
        cases s (inl q) = inl (q, rw q s)
        cases s (inr k) = inr k.0

    pub clean-nowhere : (v i : ℕ) → SessionTakes w t x (clean v i) mail → is_cleaning (stage_of w t) ≡ 0 → is_waiting (stage_of w t) ≡ 0 → ⊥
    clean-nowhere v i hr a b = cases (clean-where v i hr)
      where
        cases : ((t ≡ v) × CleanUnderWay w t) ⊎ (1 ≤ is_waiting (stage_of w t)) → ⊥
        cases (inl k) = omega (arith, k.1, a)
        cases (inr k) = omega (arith, k, b)

    pub clean-own : (v i : ℕ) → SessionTakes w t x (clean v i) mail → is_waiting (stage_of w t) ≡ 0 → t ≡ v
    clean-own v i hr b = cases (clean-where v i hr)
      where
        cases : ((t ≡ v) × CleanUnderWay w t) ⊎ (1 ≤ is_waiting (stage_of w t)) → t ≡ v
        cases (inl k) = k.0
        cases (inr k) = absurd (omega (arith, k, b))

    heard-own-clean : (v i y : ℕ) → (w.session t).stage ≡ victim cleaning y → SessionHeard (clean v i) (on_clean R t x (w.session t) v i (victim cleaning y))
    unfolding on_clean
    heard-own-clean v i y e = by-test (SessionHeard (clean v i)) (eqb v t)
        (λ q acts hr ts h. let z : v ≡ t = eqb-true v t q in subst P (sym z) (λ acts hr ts. (return-probes L known t x mail i y _ _ e acts hr h, return-victims L known t x mail i y _ _ e acts hr ts)) acts hr ts)
        (λ q acts hr ts h. absurd (eqb-false v t q (sym (clean-own v i hr (ap is_waiting e)))))
      where
        o : SessionStep
        o = record { after = record { stage = victim withdrawing y; held = (w.session t).held; stored = (w.session t).stored }; sends = (y, up withdraw) ∷ [] }

        P : ℕ → Type 0
        P v = SessionSends w t o.sends mail → SessionTakes w t x (clean v i) mail → ((u : ℕ) → mail.total u + bit (eqb v u) ≡ w.total u + cleans_sent u o.sends) → SessionDone o

    heard-clean : (v i : ℕ) (s : Stage) → (w.session t).stage ≡ s → SessionHeard (clean v i) (on_clean R t x (w.session t) v i s)
    unfolding on_clean cleared
    heard-clean v i growing e acts hr ts h = absurd (clean-nowhere v i hr (ap is_cleaning e) (ap is_waiting e))
    heard-clean v i (waiting y) e acts hr ts h =
        let reb : Sends = rebroadcasts R x (w.session t) in
        let c : (u : ℕ) → cleans_sent u reb ≡ 0 = λ u. cleansSent-rebroadcasts R u x (w.session t) in
        subst P (sym e) (
          member-probes L known t x mail v i y (w.session t).held e reb (no-probe-rebroadcasts R x (w.session t)) (λ u z. omega (arith, cleansOf-sentTo u z reb, c u)) acts hr h,
          member-victims L known t x mail v i y (w.session t).held e reb c acts hr ts,
        )
      where
        P : Stage → Type 0
        P s = SessionDone (record { after = record { stage = s; held = (w.session t).held; stored = λ (_ : ℕ). 0 }; sends = [] })
    heard-clean v i (victim cleaning y) e acts hr ts h = heard-own-clean v i y e acts hr ts h
    heard-clean v i (victim withdrawing y) e acts hr ts h = absurd (clean-nowhere v i hr (ap is_cleaning e) (ap is_waiting e))
    heard-clean v i (releasing p) e acts hr ts h = absurd (clean-nowhere v i hr (ap is_cleaning e) (ap is_waiting e))

    pub session-heard : (m : Message) → SessionHeard m (session_receives R t x (w.session t) m)
    unfolding session_receives
    session-heard (up m) = taken-dropped (up m) (λ _. refl)
    session-heard (down grant) = heard-grant (w.session t).stage refl
    session-heard (down resend) = heard-resend (w.session t).stage refl
    session-heard (down withdrawn) = heard-withdrawn (w.session t).stage refl
    session-heard (probe i j) = heard-probe i j (w.session t).stage refl
    session-heard (clean v i) = heard-clean v i (w.session t).stage refl
    session-heard (abort v i) = heard-abort v i (w.session t).stage refl

  -- ---- the calls
  calls-down-kept : ((z : ℕ) → mail.down t z ≡ w.down t z) → DownKept
  calls-down-kept q = record { cleans-same = λ v z. ap (cleans_of v) (sym (q z)); behind-kept = λ Q z h. rw (q z) h; every-kept = λ Q z h. rw (q z) h }

  abbrev pub CallDone : Answer → Type 0
  CallDone refused = Unit {0}
  CallDone (accepted o) = SessionSends w t o.sends mail → ((z : ℕ) → mail.down t z ≡ w.down t z) → ((v : ℕ) → mail.total v ≡ w.total v + cleans_sent v o.sends) → Probes R w → SessionDone o

  pub request-call : (x : ℕ) (s : Stage) → (w.session t).stage ≡ s → CallDone (on_request_call R x (w.session t) s)
  unfolding on_request_call AbortTo cleans_sent AllTell stored_probes
  request-call x growing e = by-test CallDone ((w.session t).held x) (λ _. tt) (λ _ acts q ts h. plain-both _ acts (calls-down-kept q) ts (record {
    victim-le = omega arith;
    cleaning-same = sym (ap is_cleaning e);
    keep = λ k d s. omega arith;
    abort-kept = λ k. absurd (let z : AbortTo R w t growing = subst (AbortTo R w t) e k in z);
    none_of = λ v. omega (arith, cleansSent-probesFrom v (w.session t).stored x (one_to R.S));
    victim-silent = λ s. absurd (omega arith);
    live-before = λ _. ap is_live e;
    stores = λ h l i ne. h.stored-true t (ap is_live e) i ne;
    sent = λ h. every-cons tt (allTell-stored h (ap is_live e) x (one_to R.S));
  }) h)
  request-call x (waiting y) e = tt
  request-call x (victim p y) e = tt
  request-call x (releasing p) e = tt

  release-held : (x : ℕ) → is_victim (stage_of w t) ≡ 0 → is_cleaning (stage_of w t) ≡ 0 → is_waiting (stage_of w t) ≡ 0
      → (AbortTo R w t (stage_of w t) → ⊥) → CallDone (release_held R x (w.session t))
  unfolding release_held cleans_sent AllTell
  release-held x vz fz tz nab = by-test CallDone ((w.session t).held x) (λ _ acts q ts h. plain-both _ acts (calls-down-kept q) ts (record {
    victim-le = omega arith;
    cleaning-same = sym fz;
    keep = λ k d s. absurd (omega (arith, s, tz));
    abort-kept = λ k. absurd (nab k);
    none_of = λ v. omega arith;
    victim-silent = λ s. absurd (omega arith);
    live-before = λ l. absurd (false≢true l);
    stores = λ h l. absurd (false≢true l);
    sent = λ h. every-cons tt every-nil;
  }) h) (λ _. tt)

  pub release-call : (x : ℕ) (s : Stage) → (w.session t).stage ≡ s → CallDone (on_release_call R x (w.session t) s)
  unfolding on_release_call AbortTo
  release-call x growing e = release-held x (ap is_victim e) (ap is_cleaning e) (ap is_waiting e) (λ k. let z : AbortTo R w t growing = subst (AbortTo R w t) e k in z)
  release-call x (waiting y) e = tt
  release-call x (victim p y) e = tt
  release-call x (releasing shrinking) e = release-held x (ap is_victim e) (ap is_cleaning e) (ap is_waiting e) (λ k. let z : AbortTo R w t (releasing shrinking) = subst (AbortTo R w t) e k in z)
  release-call x (releasing rolled_back) e = tt
