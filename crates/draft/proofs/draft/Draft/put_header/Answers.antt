use Rattle.std.proofs.Common.{ap, ◌∙◌}
use Rattle.avp.specs.Names.{code_of}
use Rattle.draft.specs.Octets.{header_by, vendor_header}
use Rattle.draft.proofs.Puts.{put_same}
use Rattle.draft.proofs.draft.Draft.put_header.Goals as goal

pub returns-in-Some : goal.returns-in-Some
returns-in-Some c =
    put_same
    (c.vendor_header.ensures
    ∙ ap (λ k. vendor_header k c.in-Some.vendor c.args.size) c.code-in-Some.ensures
    ∙ ap (λ o. header_by (code_of c.args.avp) o c.args.size) c.in-Some.ensures)
    c.put-in-Some.ensures
