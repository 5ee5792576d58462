-- A suite that is told by its number.
use Rattle.std.specs.Prelude.{ℕ, List, Option}
use Rattle.std.specs.Option.{option_map}
use Rattle.std.specs.Result.{result_ok}
use Rattle.fault.specs.declared.kinds.Layer.TheVariants.{Key as KeyLayer}
use Rattle.fault.specs.declared.kinds.KeyFault.TheVariants.{Suite}
use Rattle.fault.specs.declared.kinds.SessionFault.{SessionFault}
use Rattle.fault.specs.declared.kinds.SessionFault.TheVariants.{Key}
use Rattle.fault.specs.Refusals.{Refusal, refusal, inside}
use Rattle.poet.specs.Functions.{Functions}
use Rattle.suites.specs.Listed.{listed, functions_of}

-- the functions of the suite with the number n, under each key, if it is listed
abbrev pub suite_of : ℕ → Option (List ℕ → Functions)
suite_of n = option_map functions_of (result_ok (listed n))

-- the refusal of a number that is not listed
abbrev pub not_listed : ℕ → Refusal SessionFault
not_listed n = inside Key (refusal Suite 2 KeyLayer n)
