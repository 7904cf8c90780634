-- The readers of codes, fields, DC parts, events and lists read their grammars. Assumes nothing.
use mathlib.Core.Bool.{Bool}
use mathlib.Core.List.{List}
use Prim.Native.Nat.{ℕ, ◌<◌, ◌^◌, ◌≤◌}
use lib.Dec.{T}
use lib.ListN.{length}
use Rattle.bits.specs.Bits.{bin}
use Rattle.codes.specs.Table.{code_bits, prefix_free}
use Rattle.codes.specs.declared.dc_size.DcComponent.{DcComponent}
use Rattle.codes.specs.declared.tcoef_tables.TcoefTable.{TcoefTable}
use Rattle.dc_parts.proofs.DcLaws.{dc-sound, dc-takes}
use Rattle.dc_parts.specs.Dc.{GoodDc, dc_bits}
use Rattle.dc_parts.specs.DcReader.{read_dc}
use Rattle.events.proofs.EitherLaws.{event-sound, event-takes}
use Rattle.events.specs.Event.{GoodEvent, event_bits}
use Rattle.events.specs.EventReader.{event}
use Rattle.fields.proofs.ReadLaws.{code-complete, code-sound, field-complete, field-sound}
use Rattle.fields.specs.Reader.{code, field}
use Rattle.fields.specs.declared.error.TextureParseError.{TextureParseError}
use Rattle.sentences.specs.ComposeReader.{Reads}
use Rattle.texture.proofs.ListLaws.{list-complete, list-sound}
use Rattle.texture.specs.Events.{GoodList, events_bits}
use Rattle.texture.specs.EventsReader.{list}

-- a code of a prefix-free table, and a field of n bits
pub code_reads : (cs ls : List ℕ) (width rows : ℕ) (err : ℕ → TextureParseError) → T (prefix_free width cs ls) → rows ≤ length cs
    → Reads (code cs ls width rows err) (code_bits cs ls) (λ (i : ℕ). i < rows)
code_reads cs ls width rows err free within =
    record { sound = λ b i r q. code-sound cs ls width rows err b q; complete = λ i r h. code-complete cs ls width rows err free within i r h }

pub field_reads : (n : ℕ) → Reads (field n) (bin n) (λ (v : ℕ). v < 2 ^ n)
field_reads n = record { sound = λ b v r q. field-sound n b q; complete = λ v r h. field-complete n v r h }

pub dc_reads : (c : DcComponent) → Reads (read_dc c) (dc_bits c) (GoodDc c)
dc_reads c = record { sound = dc-sound c; complete = λ x r g. (dc-takes c x g).reads r }

pub event_reads : (rev : Bool) → Reads (event rev) event_bits (GoodEvent rev)
event_reads rev = record { sound = λ b e r q. event-sound rev b q; complete = λ e r g. (event-takes rev e g).reads r }

pub list_reads : (rev : Bool) (t : TcoefTable) (place : ℕ) → Reads (list rev t place) events_bits (GoodList rev t place)
list_reads rev t place = record { sound = λ b es r q. list-sound rev t place b q; complete = list-complete rev t place }
