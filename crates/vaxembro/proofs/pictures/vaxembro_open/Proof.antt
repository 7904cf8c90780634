-- `vaxembro::pictures::vaxembro_open` meets its contract. Assumes nothing.
use mathlib.Core.Path.{ap, ◌∙◌}
use borrow.Author.Rules.{rules}
use borrow.Author.Tests.{le-leb, lt-leb}
use Rattle.vaxembro.specs.Calls.{opened_number, opened_state, state_long}
use Rattle.vaxembro.proofs.RoomLaws.{long-is, short_is}
use Rattle.vaxembro.proofs.pictures.vaxembro_open.Statement.{statement}
use Rattle.std.specs.Prelude.{Result}
use Rattle.picture_state.specs.declared.picture.Picture.{Picture}
use Rattle.assembly.specs.declared.error.BlockAssemblyError.{BlockAssemblyError}
use Rattle.vaxembro.proofs.pictures.vaxembro_open.Tie as tie

returns-then-state-lt5 : tie.Need-returns-then-state-lt5
unfolding state_long
returns-then-state-lt5 c = let e = lt-leb 5 _ c.if-state-lt5.true in (short_is _ e, short_is _ e)

open-o-requires : tie.Need-open-o-requires
open-o-requires c κs = search rules

opened-requires : tie.Need-opened-requires
opened-requires c κs = search rules

shape_of-state : tie.Need-shape_of-state
shape_of-state c = search rules

returns : tie.Need-returns
unfolding state_long
returns c =
    let d = c.before.before in
    let o = d.before.before in
    let e = le-leb 5 _ o.if-state-lt5.false in
    let s = o.args.state.now in
    let r = d.opened.ensures in
    let p = o.open-o.ensures.0 in
    (long-is _ e (r.0 ∙ ap opened_number p), long-is _ e (r.1 ∙ ap (λ (x : Result Picture BlockAssemblyError). opened_state x s) p))

pub vaxembro_open_spec : {M : Type 1} → statement M
vaxembro_open_spec =
    tie.close (tie.spec returns-then-state-lt5 open-o-requires opened-requires shape_of-state returns)
