-- How long what both formats write is.
use Rattle.std.proofs.Common.{◌≡◌, ◌+◌, ◌≤◌, length, refl, arith}
use Rattle.jr_dated.specs.declared.formats.Format.{Format}
use Rattle.jr_dated.specs.declared.formats.Format.TheVariants.{One, Two}
use Rattle.jr_dated.specs.Dated.{Dated}
use Rattle.jr_dated.specs.Formats.{header_of, LegalIn, spelled_in, size_in}
use Rattle.jr_dated.proofs.Spelling.{body_within, length-plain, length-spelled}

pub length-header : (format : Format) → length (header_of format) ≡ 16
length-header One = refl
length-header Two = refl

-- the bytes of a record with its gate
pub size_is : (format : Format) (d : Dated) → 1 + length (spelled_in format d) ≡ size_in format d.what
size_is One d = refl
size_is Two d = omega (arith, length-spelled d)

pub most_in : (format : Format) (d : Dated) → LegalIn format d → 1 + length (spelled_in format d) ≤ 16410
most_in One d legal = omega (arith, length-plain d.what, body_within d.what legal.0)
most_in Two d legal = omega (arith, length-spelled d, body_within d.what legal.0)
