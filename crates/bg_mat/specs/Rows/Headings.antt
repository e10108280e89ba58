-- The lines that head a match and its games.
use Rattle.std.specs.Prelude.{◌≡◌, ◌⊎◌, ℕ, List, ◌++◌, codes}
use Rattle.std.specs.Fmt.{decimal}
use Rattle.bg_mat.specs.Rows.Words.{IsBlankText, EndsWord, IsEither, IsFirstWord, Says, SaysEither}
use Rattle.bg_mat.specs.Rows.Numbers.{IsNumber}

-- the word begins with a semicolon
abbrev pub IsComment : List ℕ → Type 0
IsComment word = (more : List ℕ) × (word ≡ codes ";" ++ more)

-- the line is blank, or its first word is such a one
abbrev pub IsBlankOr : (List ℕ → Type 0) → List ℕ → Type 0
IsBlankOr Begins line = IsBlankText line ⊎ ((word rest : List ℕ) × IsFirstWord line word rest × Begins word)

-- a line that tells nothing: it is blank, or its first word begins with a semicolon
abbrev pub IsFiller : List ℕ → Type 0
IsFiller line = IsBlankOr IsComment line

-- the word begins with a semicolon, a number sign or a bracket
abbrev pub IsHeaderWord : List ℕ → Type 0
IsHeaderWord word =
    IsComment word ⊎ ((more : List ℕ) × ((word ≡ codes "#" ++ more) ⊎ (word ≡ codes "[" ++ more)))

-- a line that tells nothing before the length of a match: it is blank, or begins with one of these
-- three
abbrev pub IsHeader : List ℕ → Type 0
IsHeader line = IsBlankOr IsHeaderWord line

-- a line may begin with a semicolon that stands alone
abbrev pub SkipsSemicolon : List ℕ → List ℕ → Type 0
SkipsSemicolon line text =
    Says line (codes ";") text ⊎ ((text ≡ line) × ((rest : List ℕ) → Says line (codes ";") rest → ⊥))

-- the line of a header that says that the match has no Crawford game: `; [Crawford "Off"]`, or
-- without the semicolon
abbrev pub SaysNoCrawford : List ℕ → Type 0
SaysNoCrawford line =
    (text after rest : List ℕ) × SkipsSemicolon line text
    × SaysEither text (codes "[Crawford") (codes ";[Crawford") after × Says after (codes "\"Off\"]") rest
    × IsBlankText rest

-- `point`, of one or of several
abbrev pub IsPoints : List ℕ → Type 0
IsPoints word = IsEither word (codes "point") (codes "points")

-- the words `point match`, or `points match`, and nothing behind them
abbrev pub EndsLength : List ℕ → Type 0
EndsLength text =
    (points after rest : List ℕ) × IsFirstWord text points after × IsPoints points
    × Says after (codes "match") rest × IsBlankText rest

-- a match to so many points
abbrev pub IsLengthLine : List ℕ → ℕ → Type 0
IsLengthLine line n =
    (number rest : List ℕ) × IsFirstWord line number rest × IsNumber number n × EndsLength rest

-- the number of a game, a colon behind it or not
abbrev pub IsGameNumber : List ℕ → ℕ → Type 0
IsGameNumber word n = IsNumber word n ⊎ ((digits : List ℕ) × (word ≡ digits ++ codes ":") × IsNumber digits n)

-- the game of this number
abbrev pub IsGameLine : List ℕ → ℕ → Type 0
IsGameLine line n =
    (after number rest : List ℕ) × Says line (codes "Game") after × IsFirstWord after number rest
    × IsGameNumber number n × IsBlankText rest

-- a text begins with a score, behind any blanks
pub record BeginsWithScore (text : List ℕ) (score : ℕ) : Type 0 where
  pub gap : List ℕ
  pub rest : List ℕ
  pub spelled : text ≡ gap ++ decimal score ++ rest
  pub blank : IsBlankText gap
  pub apart : EndsWord rest

-- a text has a colon somewhere, and then a score
pub record HasScore (text : List ℕ) (score : ℕ) : Type 0 where
  pub before : List ℕ
  pub after : List ℕ
  pub spelled : text ≡ before ++ codes ":" ++ after
  pub scored : BeginsWithScore after score

-- a text ends with a colon and a score, behind a front part
pub record EndsWithScore (text : List ℕ) (score : ℕ) (front : List ℕ) : Type 0 where
  pub gap : List ℕ
  pub end : List ℕ
  pub spelled : text ≡ front ++ codes ":" ++ gap ++ decimal score ++ end
  pub gap_blank : IsBlankText gap
  pub end_blank : IsBlankText end

-- the names of X and of O, whatever they are, each with a colon and his score behind it
pub record IsScoresLine (line : List ℕ) (x o : ℕ) : Type 0 where
  pub front : List ℕ
  pub ends : EndsWithScore line o front
  pub begins : HasScore front x
