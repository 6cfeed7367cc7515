-- What both forms of a record have: the header, with the mark of one of them, and the first half of the coefficients.
-- As the code makes it, before the other half.
use Rattle.std.specs.Prelude.{ℕ, List, ◌++◌}
use Rattle.widths.specs.Numbers.{body}
use Rattle.record.specs.Header.{header_of, kind_in, width_in, index_in, count_in}
use Rattle.forms.specs.declared.Form.{Form}
use Rattle.forms.specs.declared.Form.TheVariants.{Half}
use Rattle.forms.specs.Format.{mark, stored_in}

unfoldable pub front : Form → List ℕ → List ℕ
front form bytes =
    header_of (mark form) (kind_in bytes) (width_in bytes) (index_in bytes) (count_in bytes)
    ++ body (width_in bytes) (stored_in Half bytes)
