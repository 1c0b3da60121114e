-- The words for a level and for a type.
use Rattle.std.specs.Prelude.{ℕ, cond, List, Ok, Err, codes, Result}
use Rattle.std.specs.Str.{bytes_eq}
use Rattle.units.specs.declared.values.Level.{Level}
use Rattle.units.specs.declared.values.Level.TheVariants.{Session, Rule}
use Rattle.units.specs.declared.values.RequestType.{RequestType}
use Rattle.units.specs.declared.values.RequestType.TheVariants.{Update, Termination}
use Rattle.words.specs.declared.expected.Expected.{Expected}
use Rattle.words.specs.declared.expected.Expected.TheVariants as expected

abbrev pub level_word : Level → List ℕ
level_word Session = codes "session"
level_word Rule = codes "rule"

abbrev pub level_read : List ℕ → Result Level Expected
level_read word =
    cond (bytes_eq word (codes "session")) (Ok Session)
    (cond (bytes_eq word (codes "rule")) (Ok Rule) (Err expected.Level))

abbrev pub type_word : RequestType → List ℕ
type_word Update = codes "update"
type_word Termination = codes "termination"

abbrev pub type_read : List ℕ → Result RequestType Expected
type_read word =
    cond (bytes_eq word (codes "update")) (Ok Update)
    (cond (bytes_eq word (codes "termination")) (Ok Termination) (Err expected.RequestType))
