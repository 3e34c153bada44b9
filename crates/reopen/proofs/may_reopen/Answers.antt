-- The four tests, one after the other.
use Rattle.std.proofs.Common.{rules}
use Rattle.mailbox.specs.Layout.{entry_at}
use Rattle.mailbox.proofs.Laws.{formed-kept, formed-entry}
use Rattle.mailbox.proofs.EntryLaws.{entry-facts}
use Rattle.table.specs.Layout as Table
use Rattle.reopen.proofs.may_reopen.Goals as goal

pub no_entry_names-requires : goal.no_entry_names-requires
no_entry_names-requires c =
    let S = Table.sessions_of c.args.table.now in
    let M = Table.items_of c.args.table.now in
    let m = c.args.mail.now in
    let f = c.requires.0 in
    record {
      low = c.requires.1.low;
      kept = formed-kept S M m f.mail-sized f.mail-formed (search rules);
      plain = λ k h. (entry-facts S M (entry_at m k) (formed-entry S M m f.mail-formed k h)).plain;
    }
