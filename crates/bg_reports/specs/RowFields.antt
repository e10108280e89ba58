-- The fields of a row, as programs read them: with tabs between them, or as an object of JSON.
use Rattle.std.specs.Prelude.{ℕ, List, [], ◌++◌, codes}
use Rattle.std.specs.Fmt.{decimal}
use Rattle.json.specs.Print.{quoted}
use Rattle.bg_reports.specs.declared.rows.fields.RowForm.{RowForm}
use Rattle.bg_reports.specs.declared.rows.fields.RowForm.TheVariants.{Tsv, Json}

-- a text as the content of a field
abbrev pub text_content : RowForm → List ℕ → List ℕ
text_content Tsv text = text
text_content Json text = quoted text

-- what stands before the content of a field of this name
abbrev pub field_start : RowForm → List ℕ → List ℕ
field_start Tsv name = codes "\t"
field_start Json name = codes ",\"" ++ name ++ codes "\":"

-- the first field: the name of the file
abbrev pub file_field : RowForm → List ℕ → List ℕ
file_field Tsv file = file
file_field Json file = codes "{\"file\":" ++ quoted file

abbrev pub text_field : RowForm → List ℕ → List ℕ → List ℕ
text_field form name text = field_start form name ++ text_content form text

abbrev pub number_field : RowForm → List ℕ → ℕ → List ℕ
number_field form name number = field_start form name ++ decimal number

-- fields of which nothing is known: tabs, one for each, or nothing at all
abbrev pub unknown_fields : RowForm → List ℕ → List ℕ
unknown_fields Tsv tabs = tabs
unknown_fields Json tabs = []
