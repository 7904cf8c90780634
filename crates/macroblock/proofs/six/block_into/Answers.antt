-- `macroblock::six::block_into` meets its contract: the block is rebuilt and written, and nothing is refused. Assumes nothing.
use Rattle.std.proofs.Common.{List, ap, arith, refl, ℕ, ℤ, ◌≡◌, ◌∙◌}
use Rattle.std.specs.Prelude.{Err, Ok, Result, ⊤}
use Rattle.codes.specs.Component.{component_at}
use Rattle.coefficients.specs.Level.{places_fine}
use Rattle.coefficients.specs.Needed.{numbered}
use Rattle.scan_rows.specs.UpTo.{up_to}
use Rattle.block.proofs.RebuildLaws.{kept_fine, tests_pass}
use Rattle.assembly.specs.Answer.{first_bad}
use Rattle.assembly.specs.Values.{samples_of}
use Rattle.assembly.specs.declared.error.BlockAssemblyError.{BlockAssemblyError}
use Rattle.block.specs.Rebuilt.{dc_here, rebuild_tests, rebuilt_by, values_here}
use Rattle.samples.proofs.OutcomeLaws.{block-is-written}
use Rattle.samples.specs.Samples.{block_after}
use Rattle.macroblock.proofs.six.block_into.Goals as goal
use Rattle.macroblock.proofs.six.block_into.Goals.{After-reconstruct_up_to, After-write_one-put}

-- the tests of the block pass
passed : (c : After-reconstruct_up_to) → let a = c.args in first_bad (rebuild_tests a.i a.ctx (numbered a.n.now) a.w (up_to a.end a.qfs.now)) ≡ Ok tt
passed c =
    let a = c.args in
    let p = c.requires in
    tests_pass a.i a.ctx (numbered a.n.now) a.w (up_to a.end a.qfs.now) p.0 p.2 p.3 (ap places_fine p.5 ∙ p.4)

-- there is room for it
done : (c : After-write_one-put) → c.write_one-put.result ≡ Ok tt
done c = c.write_one-put.ensures.value.0 ∙ block-is-written c.args.i c.args.samples.now c.requires.0 c.requires.1

pub returns-in_err-reconstruct_up_to : goal.returns-in_err-reconstruct_up_to
returns-in_err-reconstruct_up_to c =
    let a = c.args in
    let dc = dc_here (component_at a.i) a.ctx (numbered a.n.now) a.w (up_to a.end a.qfs.now) in
    let t = c.in_err-reconstruct_up_to.was in
    let u : c.reconstruct_up_to.result ≡ Ok dc = c.reconstruct_up_to.ensures.value ∙ ap (λ (k : Result ⊤ BlockAssemblyError). rebuilt_by k dc) (passed (goal.at.returns-in_err-reconstruct_up_to c).After-reconstruct_up_to) in
    let z : ◌≡◌ {A = ℕ} 0 1 = cc in
    absurd (omega arith)

pub returns-in-Err-OutOfRange : goal.returns-in-Err-OutOfRange
returns-in-Err-OutOfRange c =
    let t = c.in-Err-OutOfRange.is in
    let u = done (goal.at.returns-in-Err-OutOfRange c).After-write_one-put in
    let z : ◌≡◌ {A = ℕ} 0 1 = cc in
    absurd (omega arith)

pub returns-in-Err-TooShort : goal.returns-in-Err-TooShort
returns-in-Err-TooShort c =
    let t = c.in-Err-TooShort.is in
    let u = done (goal.at.returns-in-Err-TooShort c).After-write_one-put in
    let z : ◌≡◌ {A = ℕ} 0 1 = cc in
    absurd (omega arith)

pub returns-in-Ok : goal.returns-in-Ok
returns-in-Ok c =
    let a = c.args in
    let samples : List ℤ → List (List ℤ) = λ qfs. samples_of a.ctx (values_here (component_at a.i) a.ctx (numbered a.n.now) a.w qfs) in
    (refl, c.write_one-put.ensures.value.1 ∙ ap (λ (y : List (List ℤ)). block_after a.i y a.samples.now) (c.reconstruct_up_to.ensures.samples ∙ kept_fine _ _ (passed (goal.at.returns-in-Ok c).After-reconstruct_up_to) ∙ ap samples c.requires.5))
