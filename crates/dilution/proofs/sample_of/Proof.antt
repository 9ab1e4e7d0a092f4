-- `dilution::sample_of` meets its contract: nothing overflows, and the quotient, rounded by the remainder, is the sample. Assumes nothing.
use Prim.Native.Nat.{◌*◌, ◌≤◌}
use native.Mathlib.Nat.{mul-le-mul, div-add-mod', mod-lt, mod-le, div-le_self}
use native.Mathlib.Omega.{arith}
use Rattle.dilution.specs.VolumeLaws.{sample_up, sample-down}
use borrow.Author.Rules.{rules}
use Rattle.dilution.proofs.sample_of.Statement.{statement}
use Rattle.dilution.proofs.sample_of.Tie as tie

-- the greatest target times the greatest final volume
product : (c : tie.Start) → c.args.target * c.args.final_volume ≤ 1000000000 * 10000
product c = mul-le-mul {n₁ = c.args.target} {m₁ = c.args.final_volume} {n₂ = 1000000000} {m₂ = 10000} c.requires.1 c.requires.2

mul-amount : tie.Need-overflow_mul-amount
mul-amount c = record { fits = omega (arith, product c) }

div-whole : tie.Need-nonzero_div-whole
div-whole c = search rules

rem-rest : tie.Need-nonzero_rem-rest
rem-rest c = search rules

mul-if1 : tie.Need-overflow_mul-rest
mul-if1 c = record { fits = omega (arith, product c, mod-le (c.args.target * c.args.final_volume) c.args.concentration) }

add-result : tie.Need-overflow_add-result
add-result c =
    let args = c.args in
    record { fits = omega (arith, product c.before, div-le_self (args.target * args.final_volume) args.concentration) }

returns : tie.Need-returns-then-concentration-rest
returns c =
    let args = c.args in
    let amount = args.target * args.final_volume in
    sample_up args.concentration args.target args.final_volume _ _ c.requires.0 (div-add-mod' amount args.concentration)
    (mod-lt amount c.requires.0) c.if-concentration-rest.true

returns-2 : tie.Need-returns
returns-2 c =
    let args = c.args in
    let amount = args.target * args.final_volume in
    sample-down args.concentration args.target args.final_volume _ _ c.requires.0 (div-add-mod' amount args.concentration)
    (mod-lt amount c.requires.0) (omega (arith, c.if-concentration-rest.false))

pub sample_of_spec : {M : Type 1} → statement M
sample_of_spec =
    tie.close (tie.spec mul-amount div-whole rem-rest mul-if1 add-result returns returns-2)
