-- `block_reader::read::with_difference` meets its contract: one case each. Assumes nothing.
use Rattle.std.proofs.Common.{Ok, Result, ap, sym, ◌∙◌}
use lib.IntN.{ℤ}
use lib.ListN.{set}
use mir.Facts.{to_z-of_z}
use Rattle.bits.specs.declared.cursor.Cursor.{Cursor}
use Rattle.events.specs.declared.spelling.Spellings.{Spellings}
use Rattle.fields.specs.declared.error.TextureParseError.{TextureParseError}
use Rattle.block_reader.specs.Reading.{with_difference}
use Rattle.block_reader.specs.declared.read.PlacesRead.{PlacesRead}
use Rattle.block_reader.proofs.read.with_difference.Goals as goal

pub returns-in-Err : goal.returns-in-Err
returns-in-Err c =
    let a = c.args in
    c.refusal.ensures ∙ sym (ap (λ (x : Result (Cursor × Spellings) TextureParseError). with_difference x a.one.qfs a.difference) c.in-Err.is)

pub returns-in-Ok : goal.returns-in-Ok
returns-in-Ok c =
    let a = c.args in
    ap {B = PlacesRead} (λ (z : ℤ). record { answer = Ok c.in-Ok.read; qfs = set a.one.qfs 0 z }) (to_z-of_z c.ranges.difference)
    ∙ sym (ap (λ (x : Result (Cursor × Spellings) TextureParseError). with_difference x a.one.qfs a.difference) c.in-Ok.is)
