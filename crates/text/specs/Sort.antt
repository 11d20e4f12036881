-- The sort of a name: flags are truths, places and variables whole numbers.
use Prim.Native.String.{String}
use Rattle.term.specs.declared.Name.{Name}
use Rattle.term.specs.declared.Name.TheVariants.{Flag, Place, Input}

unfoldable pub sort_of : Name → String
sort_of (Flag r) = "Bool"
sort_of (Place r i) = "Int"
sort_of (Input k i) = "Int"
