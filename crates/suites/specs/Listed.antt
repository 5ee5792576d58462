-- The list of suites: the number of each, which is listed under a number, and the functions of
-- each.
use Rattle.std.specs.Prelude.{◌≡◌, ℕ, List, Ok, Some, None, Option, Result, ◌↔◌, ◌==◌}
use Rattle.std.specs.Prelude.{if◌then◌else◌}
use Rattle.std.specs.Option.{ok_or}
use Rattle.fault.specs.declared.kinds.KeyFault.{KeyFault}
use Rattle.fault.specs.declared.kinds.KeyFault.TheVariants.{Suite}
use Rattle.fault.specs.declared.kinds.Placed.{Placed}
use Rattle.block.specs.Bytes.{Block}
use Rattle.poet.specs.Functions.{Functions, Lawful}
use Rattle.suites.specs.declared.listed.Listed.{Listed}
use Rattle.suites.specs.declared.listed.Listed.TheVariants.{Shaft, PoetAesFour, PoetAesTen, Mirror}
use Rattle.suites.specs.declared.listed.Listed.TheVariants.{ShaftPadded, ShaftSpeck}
use Rattle.suites.specs.Mirror.{mirror}
use Rattle.suites.specs.PoetAes.{poet_aes_four, poet_aes_ten}
use Rattle.suites.specs.Shaft.{shaft, shaft_padded, shaft_speck}

abbrev pub number_of : Listed → ℕ
number_of Shaft = 1
number_of PoetAesFour = 2
number_of PoetAesTen = 3
number_of Mirror = 4
number_of ShaftPadded = 5
number_of ShaftSpeck = 6

-- its functions, under each key
abbrev pub functions_of : Listed → List ℕ → Functions
functions_of Shaft = shaft
functions_of PoetAesFour = poet_aes_four
functions_of PoetAesTen = poet_aes_ten
functions_of Mirror = mirror
functions_of ShaftPadded = shaft_padded
functions_of ShaftSpeck = shaft_speck

-- the suite with a number, if it is listed
unfoldable pub numbered : ℕ → Option Listed
numbered n =
    if n == number_of Shaft then Some Shaft
    else if n == number_of PoetAesFour then Some PoetAesFour
    else if n == number_of PoetAesTen then Some PoetAesTen
    else if n == number_of Mirror then Some Mirror
    else if n == number_of ShaftPadded then Some ShaftPadded
    else if n == number_of ShaftSpeck then Some ShaftSpeck
    else None

-- The answer to a number: its suite, or that none has it, with the number as the place.
abbrev pub listed : ℕ → Result Listed (Placed KeyFault)
listed n = ok_or (numbered n) (record { fault = Suite; place = n })

-- the listed suite s is that with the number n and these functions
abbrev pub IsSuite : (s : Listed) (n : ℕ) (under : List ℕ → Functions) → Type 0
IsSuite s n under = (number_of s ≡ n) × (functions_of s ≡ under)

-- Each suite is listed under its own number and no other: so no two have one number.
abbrev pub NumberLaw : Type 0
NumberLaw = (s : Listed) (n : ℕ) → (listed n ≡ Ok s) ↔ (n ≡ number_of s)

-- every listed suite is lawful under every key
abbrev pub LawfulLaw : Type 0
LawfulLaw = (s : Listed) (key : List ℕ) → Block key → Lawful (functions_of s key)
