-- The command that the first word after the program's name asks for, and the status of the process behind it.
use Rattle.std.specs.Prelude.{◌≡◌, ℕ, ◌≤◌, cond, ◌||◌, List, codes, Some, None, Option}
use Rattle.std.specs.Str.{bytes_eq}
use Rattle.cli.specs.declared.command.Command.{Command}
use Rattle.cli.specs.declared.command.Command.TheVariants.{Check, Help, Unknown}
use Rattle.cli.specs.declared.texts.TextCommand.{TextCommand}
use Rattle.cli.specs.declared.texts.TextCommand.TheVariants.{Show, Write}

abbrev pub command_of : List ℕ → Command
command_of word =
    cond (bytes_eq word (codes "check")) Check
    (cond (bytes_eq word (codes "help") || (bytes_eq word (codes "--help") || bytes_eq word (codes "-h"))) Help Unknown)

-- the commands about texts of messages
abbrev pub text_command_of : List ℕ → Option TextCommand
text_command_of word =
    cond (bytes_eq word (codes "show")) (Some Show)
    (cond (bytes_eq word (codes "write")) (Some Write) None)

-- the status of the process, where no stream fails: 1 for words that name no command
abbrev pub status_of : Command → ℕ
status_of Check = 0
status_of Help = 0
status_of Unknown = 1

-- the same of commands about texts: show answers 0, and write 0 or, where the text is wrong, 1
abbrev pub Status : TextCommand → ℕ → Type 0
Status Show n = n ≡ 0
Status Write n = n ≤ 1
