-- Blocks in turn: what one needs of its neighbours, that its levels are those by all that it takes, how far its places reach, and what six turns leave. Assumes nothing.
use mathlib.Core.List.{List, [], ◌∷◌}
use mathlib.Core.Path.{◌≡◌, ap, ap₂, refl, sym, ◌∙◌}
use Prim.Native.Nat.{ℕ, suc, zero, ◌+◌, ◌<◌, ◌≤◌}
use native.Mathlib.Numerals.{add-one}
use native.Mathlib.Omega.{arith}
use lib.IntN.{ℤ}
use lib.ListN.{get_or, length}
use Rattle.numbers.specs.Grid.{cell}
use Rattle.ranges.specs.Range.{depth_fine, quantiser_fine}
use Rattle.codes.specs.Component.{component_at}
use Rattle.coefficients.proofs.NeededLaws.{needed_fine, needed_levels}
use Rattle.scan_rows.proofs.UpToLaws.{up_to_all}
use Rattle.coefficients.specs.Level.{predictors_fine}
use Rattle.coefficients.specs.Needed.{needed_of, numbered}
use Rattle.scan_rows.specs.UpTo.{up_to}
use Rattle.prediction.specs.declared.predictor.BlockPredictors.{BlockPredictors}
use Rattle.samples.proofs.TurnLaws.{turn_all, turn_by, turn-length, turn-none}
use Rattle.samples.specs.Samples.{block_after, blocks_after, samples_after}
use Rattle.block.proofs.RebuildLaws.{kept_fine, tests_pass}
use Rattle.assembly.proofs.ContextLaws.{depth-fine, quantiser-fine}
use Rattle.assembly.specs.Answer.{first_bad}
use Rattle.block.specs.Rebuilt.{dc_here, rebuild_tests, rebuilt_answer, rebuilt_by, rebuilt_levels, rebuilt_samples}
use Rattle.assembly.specs.Values.{levels_of, samples_of, values_of}
use Rattle.assembly.specs.declared.context.MacroblockTextureContext.{MacroblockTextureContext}
use Rattle.assembly.specs.declared.error.BlockAssemblyError.{BlockAssemblyError}
use Rattle.macroblock.specs.Six.{samples_of_six}
use Rattle.record.proofs.RecordLaws.{record_whole}
use Rattle.record.proofs.RefusalLaws.{block_passes, handed_out, quantiser_passes}
use Rattle.neighbours.proofs.TakenLaws.{taken_passes}
use Rattle.neighbours.specs.Neighbours.{Around, around_by, predictors}
use Rattle.record.specs.Record.{blank, record_at, stored_at, with_block}
use Rattle.record.specs.Refusals.{block_tests, first_bad as firstRecord, quantiser_tests, unless}
use Rattle.neighbours.specs.Taken.{taken_tests}
use Rattle.places.specs.declared.place.Place.{Place}
use Rattle.window_reader.proofs.EndLaws.{beyond_end}
use Rattle.window_reader.specs.Ends.{end_of, ends_of}
use Rattle.picture.proofs.SerialLaws.{turn-predictors, turn-samples, up_next, up-sound}
use Rattle.picture.specs.Serial.{record_of, record_up_to, values_at, values_in_turn}
use Rattle.picture.specs.Turn.{SixReady, TurnReady, record_turn, samples_turn, taken_by}
use Rattle.std.specs.Prelude.{Err, Ok, Result, ⊤}

-- ---- one block

-- an answer is one and no other
pub not-refused : {r : Result ℤ BlockAssemblyError} {d : ℤ} {e : BlockAssemblyError} → r ≡ Ok d → r ≡ Err e → ⊥
not-refused a b = let z : ◌≡◌ {A = ℕ} 0 1 = cc in omega arith

pub same-dc : {r : Result ℤ BlockAssemblyError} {c d : ℤ} → r ≡ Ok d → r ≡ Ok c → c ≡ d
same-dc a b = cc

module _ (x : MacroblockTextureContext) (w : List (List ℕ)) (p : Place) (store own qfs : List ℤ) (i end room : ℕ) (h : TurnReady x w p store own qfs i end room) where
  -- all that it takes
  abbrev whole : BlockPredictors
  whole = taken_by x p store own i

  found : firstRecord (taken_tests (length store) (length own) p i) ≡ Ok tt
  found =
      let k = h.passed in
      taken_passes (length store) (length own) p i h.index (ap quantiser_fine k.quantiser ∙ quantiser-fine x w k.context) (ap depth_fine k.depth ∙ depth-fine x w k.context) k.lies (omega (arith, h.long))

  -- with what was handed out as needed
  module _ (t old : List ℤ)
      (e : t ≡ unless (firstRecord (taken_tests (length store) (length own) p i)) (needed_of p.quantiser_scale x.ac_pred_flag (predictors p.bits_per_pixel p.quantiser_scale (around_by p store) (record_at own 0) i)) old) where
    needed_are : t ≡ needed_of x.quantiser_scale x.ac_pred_flag whole
    needed_are =
        e ∙ handed_out _ _ found
        ∙ ap₂ (λ (a b : ℕ). needed_of b x.ac_pred_flag (predictors a b (around_by p store) (record_at own 0) i)) h.passed.depth h.passed.quantiser
        ∙ ap (λ (o : List ℤ). needed_of x.quantiser_scale x.ac_pred_flag (predictors x.bits_per_pixel x.quantiser_scale (around_by p store) o i)) (record_whole own h.long)

    same : levels_of (component_at i) x (numbered t) qfs ≡ levels_of (component_at i) x whole qfs
    same =
        ap (λ (ns : List ℤ). levels_of (component_at i) x (numbered ns) qfs) needed_are
        ∙ needed_levels (component_at i) x.quantiser_scale x.ac_pred_flag x.alternate_vertical_scan whole qfs h.taken

    tests : first_bad (rebuild_tests i x (numbered t) w qfs) ≡ Ok tt
    tests =
        tests_pass i x (numbered t) w qfs h.index h.passed.context
        (ap (λ (ns : List ℤ). predictors_fine (numbered ns)) needed_are ∙ needed_fine x.quantiser_scale x.ac_pred_flag whole (quantiser-fine x w h.passed.context) h.taken)
        h.places

    -- nothing is refused
    pub rebuilt_is : {r : Result ℤ BlockAssemblyError} → r ≡ rebuilt_answer i x (numbered t) w (up_to end qfs) → r ≡ Ok (dc_here (component_at i) x whole w qfs)
    rebuilt_is f =
        f ∙ ap (λ (q : List ℤ). rebuilt_answer i x (numbered t) w q) h.ended
        ∙ ap (λ (k : Result ⊤ BlockAssemblyError). rebuilt_by k (dc_here (component_at i) x (numbered t) w qfs)) tests
        ∙ ap (λ (l : List (List ℤ)). Ok (cell (values_of (component_at i) x w l) 0 0)) same

    pub record_is : {out : List ℤ} {dc : ℤ} {qf : List (List ℤ)} (before : List (List ℤ)) → dc ≡ dc_here (component_at i) x whole w qfs → qf ≡ rebuilt_levels i x (numbered t) w (up_to end qfs) before
        → out ≡ unless (firstRecord (block_tests (length own) i)) (with_block own i dc qf) own → out ≡ record_turn x w p store own qfs i
    unfolding record_turn
    record_is before d f g =
        g ∙ handed_out _ _ (block_passes (length own) i h.index (omega (arith, h.long)))
        ∙ ap₂ (with_block own i) d (f ∙ ap (λ (q : List ℤ). rebuilt_levels i x (numbered t) w q before) h.ended ∙ kept_fine _ before tests ∙ same)

    pub samples-are : {b : List (List ℤ)} {s : List ℤ} (lent : List ℤ) (before : List (List ℤ)) → b ≡ rebuilt_samples i x (numbered t) w (up_to end qfs) before
        → s ≡ block_after i b lent → s ≡ samples_turn x w p store own qfs i lent
    unfolding samples_turn
    samples-are lent before f g =
        g
        ∙ ap (λ (y : List (List ℤ)). block_after i y lent)
        (f ∙ ap (λ (q : List ℤ). rebuilt_samples i x (numbered t) w q before) h.ended ∙ kept_fine _ before tests ∙ ap (λ (l : List (List ℤ)). samples_of x (values_of (component_at i) x w l)) same)

-- ---- the end of a row

-- a row of 64 places is there
row-there : (rows : List (List ℤ)) (i : ℕ) → length (get_or rows i []) ≡ 64 → i < length rows
row-there [] i n = absurd (omega (arith, n))
row-there (r ∷ rows) zero n = omega arith
row-there (r ∷ rows) (suc i) n = omega (arith, row-there rows i n)

end_at : (rows : List (List ℤ)) (i o : ℕ) → i < length rows → get_or (ends_of rows) i o ≡ end_of (get_or rows i [])
end_at [] i o l = absurd (omega arith)
end_at (r ∷ rows) zero o l = refl
end_at (r ∷ rows) (suc i) o l = end_at rows i o (omega arith)

-- the places up to its end are all of them
up_to_end : (rows : List (List ℤ)) (ends : List ℕ) (i o : ℕ) → ends ≡ ends_of rows → length (get_or rows i []) ≡ 64 → up_to (get_or ends i o) (get_or rows i []) ≡ get_or rows i []
up_to_end rows ends i o e n =
    ap (λ (k : ℕ). up_to k (get_or rows i [])) (ap (λ (y : List ℕ). get_or y i o) e ∙ end_at rows i o (row-there rows i n))
    ∙ up_to_all (end_of (get_or rows i [])) (get_or rows i []) n (beyond_end (get_or rows i []))

-- ---- six turns

-- the samples of the six blocks
abbrev pub six : MacroblockTextureContext → List (List ℕ) → Place → List ℤ → List (List ℤ) → List (List (List ℤ))
six x w p store rows = samples_of_six x (values_in_turn x w (around_by p store) rows)

-- after the blocks below i
pub record Turned (x : MacroblockTextureContext) (w : List (List ℕ)) (p : Place) (store : List ℤ) (rows : List (List ℤ)) (lent : List ℤ) (i : ℕ) (own samples : List ℤ) : Type 0 where
  pub below : i ≤ 6
  pub kept : own ≡ record_up_to x w (around_by p store) rows i
  pub written : samples ≡ blocks_after i (six x w p store rows) lent

pub turned_length : (x : MacroblockTextureContext) (w : List (List ℕ)) (p : Place) (store : List ℤ) (rows : List (List ℤ)) (lent : List ℤ) (i : ℕ) (own samples : List ℤ)
    → Turned x w p store rows lent i own samples → length samples ≡ length lent
turned_length x w p store rows lent i own samples t = ap length t.written ∙ turn-length i (six x w p store rows) lent

module _ (x : MacroblockTextureContext) (w : List (List ℕ)) (p : Place) (store : List ℤ) (rows : List (List ℤ)) (ends : List ℕ) (lent : List ℤ) (h : SixReady x w p store rows ends (length lent)) where
  abbrev ar : Around
  ar = around_by p store

  abbrev Now : ℕ → List ℤ → List ℤ → Type 0
  Now = Turned x w p store rows lent

  pub none_turned : {own : List ℤ} (old : List ℤ) → own ≡ unless (firstRecord (quantiser_tests x.quantiser_scale)) (blank x.quantiser_scale) old → Now 0 own lent
  unfolding record_up_to
  none_turned old e = record {
    below = omega arith;
    kept = e ∙ handed_out _ _ (quantiser_passes x.quantiser_scale (quantiser-fine x w h.passed.context));
    written = sym (turn-none (six x w p store rows) lent);
  }

  module _ (i : ℕ) (own samples : List ℤ) (t : Now i own samples) where
    pub turned_long : length own ≡ 91
    turned_long = ap length t.kept ∙ (up-sound x w ar rows h.passed.context i t.below).long

    pub turn_ready : (o : ℕ) → i < 6 → TurnReady x w p store own (get_or rows i []) i (get_or ends i o) (length samples)
    turn_ready o l =
        let e = t.kept in record {
          passed = h.passed;
          roomy = omega (arith, turned_length x w p store rows lent i own samples t, h.roomy);
          index = l;
          long = turned_long;
          taken = ap (λ (o : List ℤ). predictors_fine (predictors x.bits_per_pixel x.quantiser_scale ar o i)) e ∙ turn-predictors x w ar rows h.passed.context h.neighbours i l;
          places = (h.places i l).0;
          ended = up_to_end rows ends i o h.ended (h.places i l).1;
        }

    pub turned : {own' samples' : List ℤ} → i < 6 → own' ≡ record_turn x w p store own (get_or rows i []) i → samples' ≡ samples_turn x w p store own (get_or rows i []) i samples → Now (i + 1) own' samples'
    unfolding record_turn samples_turn
    turned l a b = record {
      below = omega arith;
      kept = a ∙ up_next x w ar rows i own t.kept;
      written = b
          ∙ turn_by i (six x w p store rows) lent _ samples l h.roomy (ap (λ (o : List ℤ). samples_of x (values_at x w ar rows o i)) t.kept ∙ turn-samples x w ar rows i l) t.written
          ∙ ap (λ (k : ℕ). blocks_after k (six x w p store rows) lent) (sym (add-one i));
    }

    -- then the record goes into the store
    pub all_turned : {after : List ℤ} (at : ℕ) → 6 ≤ i → after ≡ stored_at store at own → (samples ≡ samples_after (six x w p store rows) lent) × (after ≡ stored_at store at (record_of x w ar rows))
    all_turned at l f =
        let e : i ≡ 6 = omega (arith, t.below) in (
          t.written ∙ ap (λ (k : ℕ). blocks_after k (six x w p store rows) lent) e ∙ turn_all (six x w p store rows) lent h.roomy,
          f ∙ ap (stored_at store at) (t.kept ∙ ap (record_up_to x w ar rows) e),
        )
