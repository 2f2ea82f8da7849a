use Rattle.std.specs.Prelude.{is_ok}
use Rattle.page_text.proofs.Whole.{still_begins}
use Rattle.page_text.proofs.html_page.HtmlPageWrite.write.Goals as goal

pub invariant_of-self : goal.invariant_of-self
invariant_of-self c = record {
  begins = still_begins c.args.self.now.bytes.items c.extend_from_slice.new.self.items c.args.buf.now
      (is_ok c.extend_from_slice.result) c.args.self.now.begins c.extend_from_slice.ensures.items;
}
