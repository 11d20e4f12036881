-- The names that the code hands on, as the printed text has them.
use Rattle.std.specs.Prelude.{Bool, true, false, List, ℕ}
use Rattle.script.specs.Names.{flag_name, place_name, input_name}
use Rattle.term.specs.declared.Name as Name'
use Rattle.term.specs.declared.Name.TheVariants.{Flag, Place, Input}
use Rattle.term.specs.declared.When.{When}
use Rattle.term.specs.declared.When.TheVariants.{Before, After}

unfoldable pub name_of : Name'.Name → List ℕ
name_of (Flag r) = flag_name r
name_of (Place r i) = place_name r i
name_of (Input k i) = input_name k i

abbrev pub is_after : When → Bool
is_after Before = false
is_after After = true
