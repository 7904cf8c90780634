-- `vaxembro::header::type_number` meets its contract. Assumes nothing.
use mathlib.Core.Path.{ap, sym}
use borrow.Author.Rules.{rules}
use Rattle.vaxembro.specs.Fields.{type_number}
use Rattle.vaxembro.proofs.header.type_number.Statement.{statement}
use Rattle.vaxembro.proofs.header.type_number.Tie as tie

enum_told-1 : tie.Need-enum_told-1
enum_told-1 c = search rules

enum_told-in-Inter : tie.Need-enum_told-in-Inter
enum_told-in-Inter c = search rules

enum_told-in-InterQ : tie.Need-enum_told-in-InterQ
enum_told-in-InterQ c = search rules

enum_told-in-Inter4V : tie.Need-enum_told-in-Inter4V
enum_told-in-Inter4V c = search rules

enum_told-in-Intra : tie.Need-enum_told-in-Intra
enum_told-in-Intra c = search rules

enum_told-in-IntraQ : tie.Need-enum_told-in-IntraQ
enum_told-in-IntraQ c = search rules

returns-in-Missing : tie.Need-returns-in-Missing
returns-in-Missing c = ap type_number (sym c.in-Missing.is)

returns-in-Inter : tie.Need-returns-in-Inter
returns-in-Inter c = ap type_number (sym c.in-Inter.is)

returns-in-InterQ : tie.Need-returns-in-InterQ
returns-in-InterQ c = ap type_number (sym c.in-InterQ.is)

returns-in-Inter4V : tie.Need-returns-in-Inter4V
returns-in-Inter4V c = ap type_number (sym c.in-Inter4V.is)

returns-in-Intra : tie.Need-returns-in-Intra
returns-in-Intra c = ap type_number (sym c.in-Intra.is)

returns-in-IntraQ : tie.Need-returns-in-IntraQ
returns-in-IntraQ c = ap type_number (sym c.in-IntraQ.is)

pub type_number_spec : {M : Type 1} → statement M
type_number_spec =
    tie.close
    (tie.spec
    enum_told-1
    enum_told-in-Inter
    enum_told-in-InterQ
    enum_told-in-Inter4V
    enum_told-in-Intra
    enum_told-in-IntraQ
    returns-in-Missing
    returns-in-Inter
    returns-in-InterQ
    returns-in-Inter4V
    returns-in-Intra
    returns-in-IntraQ)
