use Rattle.page_text.proofs.Whole.{whole_page}
use Rattle.page_text.proofs.html_page.HtmlPage.end.Goals as goal

pub returns : goal.returns
returns c =
    whole_page c.args.self.bytes.items c.extend_from_slice.new.self.items c.args.self.begins
    c.in_ok-extend_from_slice.ensures.items
