-- What is true of the text of each cell.
use Rattle.ob_base.specs.declared.text.Text.TheInside.{Inside}
use Rattle.ob_base.specs.Texts.{IsPrintable}

pub record IsText (a : Inside) : Type 0 where
  pub printable : IsPrintable a.bytes.items
