-- Which letters those packages have that are held.
use Rattle.std.specs.Prelude.{Bool, false, true}
use Rattle.engine.specs.declared.Letter.{Letter}
use Rattle.engine.specs.declared.Letter.TheVariants.{B, I}

-- Whether a package with this letter is held.
abbrev pub is_letter_held : Letter → Bool
is_letter_held B = true
is_letter_held I = true
is_letter_held _ = false
