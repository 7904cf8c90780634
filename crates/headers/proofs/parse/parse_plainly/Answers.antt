-- `headers::parse::parse_plainly` meets its contract: the parts that were read, or their refusal. Assumes nothing.
use Rattle.std.proofs.Common.{ap, sym, ◌∙◌}
use mathlib.Core.Path.{subst}
use Rattle.bits.specs.Bits.{bits_from}
use Rattle.numbers.proofs.Parts.{err_by}
use Rattle.headers.proofs.AnswerLaws.{given_told, refused_told}
use Rattle.headers.proofs.McbpcLaws.{mapped-no}
use Rattle.headers.proofs.PartLaws.{Told, told}
use Rattle.headers.specs.HeaderReader.{read_header}
use Rattle.headers.specs.Inside.{InsideParts, parts_of, said_parts}
use Rattle.headers.proofs.parse.parse_plainly.Goals as goal
use Rattle.headers.proofs.parse.parse_plainly.Goals.{In_ok-p}

-- the parts that were read
parts : (k : In_ok-p) → Told (bits_from k.args.«data».now k.args.c.bit_pos) k.in_ok-p.p (bits_from k.args.«data».now k.in_ok-p.next.bit_pos)
parts k =
    let d = k.args.«data».now in
    told (bits_from d k.args.c.bit_pos) _ _ (sym k.read_parts.ensures.is ∙ ap (said_parts d) k.in_ok-p.was)

pub fields_of-fields-requires : goal.fields_of-fields-requires
fields_of-fields-requires c = ((parts (goal.at.fields_of-fields-requires c).In_ok-p).fine, c.requires.1)

pub returns-in_err-p : goal.returns-in_err-p
returns-in_err-p c =
    let a = c.args in
    let d = a.«data».now in
    err_by c.from_residual.ensures ∙ refused_told d a.c.bit_pos a.quantiser_scale (mapped-no parts_of (read_header (bits_from d a.c.bit_pos)) (sym c.read_parts.ensures.is ∙ ap (said_parts d) c.in_err-p.was))

pub returns : goal.returns
returns c =
    let a = c.args in
    let d = a.«data».now in
    given_told d a.c.bit_pos a.quantiser_scale _ _ (subst (InsideParts d) c.in_ok-p.was c.read_parts.ensures.inside) (parts (goal.at.returns c).In_ok-p) _ c.fields_of-fields.ensures
