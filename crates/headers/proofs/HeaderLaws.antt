-- The reader of a header reads its grammar, is stopped where a header breaks off, and refuses by 1, 16 and 17; what a header says is fine. Assumes nothing.
use mathlib.Core.Bool.{Bool, cond, false, true}
use mathlib.Core.List.{List}
use mathlib.Core.Path.{◌≡◌, refl}
use Prim.Native.Nat.{ℕ, suc, zero, ◌<◌, ◌≤◌}
use native.Mathlib.Omega.{arith}
use lib.Dec.{ltb}
use lib.IntN.{pos, ◌+ℤ◌}
use lib.ListN.{length}
use Rattle.bits.specs.Bits.{Bits, bin}
use Rattle.codes.proofs.PrefixFree.{cbpy_prefix_free, cbpy_rows}
use Rattle.codes.specs.Header.{cbpy_codes, cbpy_lens}
use Rattle.codes.specs.Table.{code_bits}
use Rattle.fields.proofs.ByBits.{ByBits, code_by_bits, either, field_by_bits, then}
use Rattle.fields.specs.Inside.{invalid}
use Rattle.fields.specs.Reader.{Res, code, field, mapped, no, ok}
use Rattle.fields.specs.declared.code.CodeKind.TheVariants.{Header as HeaderCode}
use Rattle.numbers.proofs.Tests.{both_true, true_both}
use Rattle.ranges.proofs.RangeLaws.{limited-fine}
use Rattle.ranges.specs.Range.{quantiser_fine}
use Rattle.sentences.proofs.ComposeLaws.{opt_reads, pair_reads, then_reads}
use Rattle.sentences.proofs.ByBits.{opt_by_bits}
use Rattle.sentences.proofs.CutSentences.{code_cut_sentence, field_cut_sentence, opt_cut, pair_cut, then_cut}
use Rattle.sentences.proofs.Reading.{code_reads, field_reads}
use Rattle.sentences.proofs.Sentences.{sentences}
use Rattle.sentences.specs.Compose.{GoodOpt, GoodPair, opt_bits, pair_bits}
use Rattle.sentences.specs.ComposeReader.{CutSentence, Reads, read_opt, read_pair}
use Rattle.sentences.specs.Sentences.{Sentences}
use Rattle.assembly.specs.Values.{context_fine}
use Rattle.assembly.specs.declared.context.MacroblockTextureContext.{MacroblockTextureContext}
use Rattle.assembly.specs.declared.error.BlockAssemblyError.TheVariants.{NotIntra}
use Rattle.headers.proofs.McbpcLaws.{coded, mcbpc_cut, mcbpc_reads}
use Rattle.headers.specs.Fields.{context_with, delta_of, fields_of, header_check, header_of, is_intra, new_quantiser}
use Rattle.headers.specs.Header.{GoodHeader, GoodMcbpc, GoodRest, Header, Mcbpc, changes_at, header_bits, mcbpc_bits, rest_bits, row_of}
use Rattle.headers.specs.HeaderReader.{mcbpc_in, one_more, read_header, read_mcbpc, read_rest}
use Rattle.headers.specs.declared.header.DerivedMbType.TheVariants.{Intra, IntraQ}
use Rattle.assembly.specs.declared.error.BlockAssemblyError.{BlockAssemblyError}
use Rattle.std.specs.Prelude.{Err, Ok, Option, Result, ⊤}

-- ---- what follows mcbpc

enough : 16 ≤ length cbpy_codes
enough = let n = cbpy_rows.0 in omega arith

abbrev cbpy_read : Bits → Res ℕ
cbpy_read = code cbpy_codes cbpy_lens 6 16 (invalid HeaderCode)

cbpy_reads : Reads cbpy_read (code_bits cbpy_codes cbpy_lens) (λ (row : ℕ). row < 16)
cbpy_reads = code_reads cbpy_codes cbpy_lens 6 16 (invalid HeaderCode) cbpy_prefix_free enough

module _ (changes : Bool) where
  dquant_reads : Reads (read_opt changes (field 2)) (opt_bits (bin 2)) (GoodOpt changes (λ (dquant : ℕ). dquant < 4))
  dquant_reads = opt_reads (field 2) (bin 2) (λ (dquant : ℕ). dquant < 4) (field_reads 2) changes

  dquant_cut : CutSentence (read_opt changes (field 2)) (opt_bits (bin 2)) (GoodOpt changes (λ (dquant : ℕ). dquant < 4))
  dquant_cut = opt_cut (field 2) (bin 2) (λ (dquant : ℕ). dquant < 4) (field_cut_sentence 2) changes

  abbrev tail_read : Bits → Res (ℕ × Option ℕ)
  tail_read = read_pair cbpy_read (read_opt changes (field 2))

  abbrev tail_bits : ℕ × Option ℕ → Bits
  tail_bits = pair_bits (code_bits cbpy_codes cbpy_lens) (opt_bits (bin 2))

  abbrev GoodTail : ℕ × Option ℕ → Type 0
  GoodTail = GoodPair (λ (row : ℕ). row < 16) (GoodOpt changes (λ (dquant : ℕ). dquant < 4))

  rest_reads : Reads (read_rest changes) rest_bits (GoodRest changes)
  rest_reads = pair_reads (field 1) (bin 1) (λ (flag : ℕ). flag < 2) tail_read tail_bits GoodTail (field_reads 1) (pair_reads cbpy_read (code_bits cbpy_codes cbpy_lens) (λ (row : ℕ). row < 16) _ _ _ cbpy_reads dquant_reads)

  rest-cut : CutSentence (read_rest changes) rest_bits (GoodRest changes)
  rest-cut =
      pair_cut (field 1) (bin 1) (λ (flag : ℕ). flag < 2) tail_read tail_bits GoodTail (field_reads 1) (field_cut_sentence 1)
      (pair_cut cbpy_read (code_bits cbpy_codes cbpy_lens) (λ (row : ℕ). row < 16) (read_opt changes (field 2)) (opt_bits (bin 2)) (GoodOpt changes (λ (dquant : ℕ). dquant < 4)) cbpy_reads (code_cut_sentence cbpy_codes cbpy_lens 6 16 (invalid HeaderCode) cbpy_prefix_free enough) dquant_cut)

-- ---- the whole

pub header_reads : Reads read_header header_bits GoodHeader
unfolding read_header
header_reads = then_reads read_mcbpc mcbpc_bits GoodMcbpc (λ (m : Mcbpc). read_rest (changes_at (row_of m))) (λ (m : Mcbpc). rest_bits) (λ (m : Mcbpc). GoodRest (changes_at (row_of m))) mcbpc_reads (λ m. rest_reads (changes_at (row_of m)))

-- accepted exactly when the bits begin with a header, never with two, stuffing counted
pub header_sentences : Sentences read_header header_bits GoodHeader
header_sentences = sentences header_reads

pub header_cut_sentence : CutSentence read_header header_bits GoodHeader
unfolding read_header
header_cut_sentence = then_cut read_mcbpc mcbpc_bits GoodMcbpc (λ (m : Mcbpc). read_rest (changes_at (row_of m))) (λ (m : Mcbpc). rest_bits) (λ (m : Mcbpc). GoodRest (changes_at (row_of m))) mcbpc_reads mcbpc_cut (λ m. rest-cut (changes_at (row_of m)))

-- ---- 11 is told before any bit

mapped_by_bits : {A B : Type 0} (f : A → B) (m : Res A) → ByBits m → ByBits (mapped f m)
mapped_by_bits f (ok a r) h = tt
mapped_by_bits f (no e) h = h

mcbpc_by_bits : (n : ℕ) (b : Bits) → ByBits (mcbpc_in n b)
unfolding mcbpc_in
mcbpc_by_bits zero b = tt
mcbpc_by_bits (suc n) b = then (coded b) _ (code_by_bits _ _ 9 9 (invalid HeaderCode) b (λ w. tt)) (λ i r. either (ltb i 8) _ _ tt (mapped_by_bits one_more (mcbpc_in n r) (mcbpc_by_bits n r)))

pub header_by_bits : (b : Bits) → ByBits (read_header b)
unfolding read_header read_mcbpc
header_by_bits b = then (read_mcbpc b) _ (mcbpc_by_bits (length b) b) (λ m r. then (read_rest (changes_at (row_of m)) r) _ (rest (changes_at (row_of m)) r) (λ x r. tt))
  where
    rest : (changes : Bool) (b : Bits) → ByBits (read_rest changes b)
    rest changes b =
        then (field 1 b) _ (field_by_bits 1 b)
        (λ v r. then (read_pair cbpy_read (read_opt changes (field 2)) r) _ (then (cbpy_read r) _ (code_by_bits cbpy_codes cbpy_lens 6 16 (invalid HeaderCode) r (λ w. tt)) (λ i r. then (read_opt changes (field 2) r) _ (opt_by_bits changes (field 2) (field_by_bits 2) r) (λ q r. tt))) (λ x r. tt))

-- ---- what a header says

-- 9 and 10 cannot arise
pub header-checked : (h : Header) → header_check (header_of h) ≡ Ok tt
header-checked h = go (changes_at (row_of h.0))
  where
    go : (t : Bool) → ◌≡◌ {A = Result ⊤ BlockAssemblyError} (cond (is_intra (cond t IntraQ Intra)) (Ok tt) (Err NotIntra)) (Ok tt)
    go true = refl
    go false = refl

-- a new quantiser is fine
pub new_fine : (q : ℕ) (h : Header) → quantiser_fine (new_quantiser q h) ≡ true
new_fine q h = limited-fine (pos q +ℤ delta_of h.1.1.1)

-- and so is the context with it
pub context-fine : (x : MacroblockTextureContext) (w : List (List ℕ)) (h : Header) → context_fine x w ≡ true → context_fine (context_with (fields_of x.quantiser_scale h) x) w ≡ true
context-fine x w h e = true_both (new_fine x.quantiser_scale h) (both_true (quantiser_fine x.quantiser_scale) _ e).1
