-- Laws of a mailbox with a gap of spent entries: what is left of it, and what it is after entries are added.
use mathlib.Core.Path.{◌≡◌, refl, sym, ap, ◌∙◌}
use mathlib.Core.List.{List, ◌++◌}
use Prim.Native.Nat.{ℕ, ◌+◌, ◌-◌, ◌≤◌, ◌<◌}
use native.Mathlib.Omega.{arith}
use lib.ListN.{length, get_or, length-append}
use Rattle.lists.specs.Lists.{remove_at}
use Rattle.lists.proofs.Laws.{without-none, length_without, without-append, get_d_without, without_more}
use Rattle.mailbox.specs.Entry.{Entry, unused}
use Rattle.mailbox.specs.Layout.{Kept, capacity_of, count_of, entry_at, entries_of, mail_bytes}
use Rattle.mailbox.proofs.Laws as MailLaws
use Rattle.drain.specs.declared.Gap.{Gap}
use Rattle.drain.specs.Parts.{in_use, closed_up, longer, GapIn, Placed}

-- a mailbox of the entries in use
pub record Left (g : Gap) (mail : List ℕ) : Type 0 where
  pub kept : Kept (closed_up g mail)
  pub capacity : capacity_of (closed_up g mail) ≡ capacity_of mail
  pub entries : entries_of (closed_up g mail) ≡ in_use g mail
  pub count : count_of (closed_up g mail) ≡ count_of mail - (g.to - g.from)

module _ (g : Gap) (mail : List ℕ) (s : GapIn g mail) where
  within : g.to ≤ length (entries_of mail)
  within = omega (arith, MailLaws.length-entries mail, s.inside)

  pub length-left : length (in_use g mail) ≡ count_of mail - (g.to - g.from)
  length-left = length_without g.from g.to (entries_of mail) s.order within ∙ ap (λ (n : ℕ). n - (g.to - g.from)) (MailLaws.length-entries mail)

  pub left : Left g mail
  left =
      let C = capacity_of mail in
      let l = in_use g mail in
      let h = s.kept in
      let fits : length l ≤ C = omega (arith, length-left, h.fits) in
      record {
        kept = MailLaws.kept-mail C l h.low h.high fits;
        capacity = MailLaws.capacity-mail C l h.low h.high fits;
        entries = MailLaws.entries-mail C l h.low h.high fits;
        count = MailLaws.count-mail C l h.low h.high fits ∙ length-left;
      }

  -- the entry behind the gap stands where the gap begins, and without it the gap is longer
  module _ (some : g.to < count_of mail) where
    behind : g.to < length (entries_of mail)
    behind = omega (arith, MailLaws.length-entries mail, some)

    pub some_left : g.from < count_of (closed_up g mail)
    some_left = omega (arith, left.count, s.order, some)

    pub entry-left : entry_at (closed_up g mail) g.from ≡ entry_at mail g.to
    entry-left =
        sym (MailLaws.get_d_entries (closed_up g mail) g.from some_left)
        ∙ ap (λ (l : List Entry). get_or l g.from unused) left.entries
        ∙ get_d_without g.from g.to (entries_of mail) s.order behind unused
        ∙ MailLaws.get_d_entries mail g.to some

    pub others-left : remove_at g.from (entries_of (closed_up g mail)) ≡ in_use (longer g) mail
    others-left = ap (remove_at g.from) left.entries ∙ without_more g.from g.to (entries_of mail) s.order behind unused

-- none is spent
pub none-spent : (g : Gap) (mail : List ℕ) → g.from ≡ g.to → Kept mail → closed_up g mail ≡ mail
none-spent g mail e kept = rw (e, without-none g.to (entries_of mail)) (sym kept.bytes)

-- entries were added where places had been made
module _ (g : Gap) (n : ℕ) (h : Gap) (before after : List ℕ) (p : Placed g n h before after) (l : List Entry) (few : length l ≡ n)
    {filled : List ℕ} (e : filled ≡ mail_bytes (capacity_of after) (entries_of after ++ l)) where
  abbrev all : List Entry
  all = entries_of after ++ l

  added : length all ≡ count_of after + n
  added = length-append (entries_of after) l ∙ rw (MailLaws.length-entries after, few) refl

  fits : length all ≤ capacity_of after
  fits = omega (arith, added, p.free)

  pub filled-spent : GapIn h filled
  filled-spent =
      let k = p.spent.kept in
      rw (e)
      (record {
        kept = MailLaws.kept-mail (capacity_of after) all k.low k.high fits;
        order = p.spent.order;
        inside = rw (MailLaws.count-mail (capacity_of after) all k.low k.high fits) (omega (arith, added, p.spent.inside));
      })

  pub filled-left : closed_up h filled ≡ mail_bytes (capacity_of before) (in_use g before ++ l)
  filled-left =
      let k = p.spent.kept in
      rw (e, MailLaws.capacity-mail (capacity_of after) all k.low k.high fits, MailLaws.entries-mail (capacity_of after) all k.low k.high fits, without-append h.from h.to (entries_of after) p.spent.order (within h after p.spent) l, p.capacity, p.entries) refl
