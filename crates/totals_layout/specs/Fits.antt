-- What fits in bytes: figures in four bytes each, and a notice in an answer.
use Rattle.std.specs.Prelude.{◌<◌}
use Rattle.notices.specs.declared.Notice.{Notice}
use Rattle.notices.specs.declared.Notice.TheVariants.{End, Spoilt, Malformed, System, Elsewhere, Circuit}
use Rattle.layout.specs.Fits.{Four}
use Rattle.receiver_layout.specs.Answers.{whole_length}
use Rattle.totals.specs.declared.Figures.{Figures}
use Rattle.totals.specs.declared.Totals.{Totals}

pub record FiguresFit (f : Figures) : Type 0 where
  pub messages : f.messages < 4294967296
  pub bytes : f.bytes < 4294967296
  pub lost : f.lost < 4294967296
  pub orphaned : f.orphaned < 4294967296

unfoldable pub TotalsFit : Totals → Type 0
TotalsFit t = Four FiguresFit t.circuits

-- a circuit number and an information length have one byte, a message's length has two
unfoldable pub NoticeFits : Notice → Type 0
NoticeFits End = Unit {0}
NoticeFits Spoilt = Unit {0}
NoticeFits Malformed = Unit {0}
NoticeFits (System enable code n) = n < 256
NoticeFits Elsewhere = Unit {0}
NoticeFits (Circuit c loss fate) = (c < 256) × (whole_length fate < 65536)
