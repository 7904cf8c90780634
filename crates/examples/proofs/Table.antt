-- Each example of the table is what the paper says: one theorem, computed. Assumes nothing.
use mathlib.Core.Path.{refl}
use Rattle.bits.specs.Bits.{bin, val}
use Rattle.codes.specs.DcSize.{dc_codes, dc_lens, dc_sizes, size_luminance}
use Rattle.codes.specs.Table.{seek}
use Rattle.codes.specs.Tcoef.{lmax_of, rmax_of, tcoef_intra, vlc_codes, vlc_lens}
use Rattle.dc_parts.specs.Dc.{difference_of}
use Rattle.dc_parts.specs.DcReader.{dc_tail, read_dc}
use Rattle.events.specs.Event.{last_number, level_of, run_of}
use Rattle.events.specs.EventReader.{escaped, event, fixed, level, longer, plain_event, run_and_level, sign, signed}
use Rattle.fields.specs.Reader.{code, field, marker}
use Rattle.examples.specs.Table.{AllHold, table}

pub every_example_holds : AllHold table
unfolding table bin val dc_codes dc_lens dc_sizes size_luminance seek lmax_of rmax_of tcoef_intra vlc_codes vlc_lens dc_tail difference_of read_dc last_number level_of run_of escaped event fixed level longer plain_event run_and_level sign signed code field marker
every_example_holds = (refl, (refl, (refl, (refl, (refl, (refl, (refl, (refl, (refl, (refl, (refl, (refl, (refl, (refl, tt))))))))))))))
