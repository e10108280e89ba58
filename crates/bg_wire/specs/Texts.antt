-- What holds of all texts together.
use Rattle.std.specs.Prelude.{◌≡◌, ◌≢◌, ℕ, ◌<◌, List, [], ◌++◌, length}

-- the bytes are a text, and more behind it
abbrev pub HasMore : {A : Type 0} → (A → List ℕ → Type 0) → List ℕ → Type 0
HasMore {A} IsTextOf bytes =
    (x : A) × (text : List ℕ) × (rest : List ℕ) × IsTextOf x text × (rest ≢ []) × (bytes ≡ text ++ rest)

-- a text that begins with a text is that text, of the same value
abbrev pub ArePrefixFree : {A : Type 0} → (A → List ℕ → Type 0) → Type 0
ArePrefixFree {A} IsTextOf =
    (x y : A) (text rest : List ℕ) → IsTextOf x text → IsTextOf y (text ++ rest) → (rest ≡ []) × (x ≡ y)

-- more bytes may make a text of these
abbrev pub IsFront : {A : Type 0} → (A → List ℕ → Type 0) → List ℕ → Type 0
IsFront {A} IsTextOf bytes = (x : A) × (rest : List ℕ) × IsTextOf x (bytes ++ rest)

-- the bytes begin a text, and are not all of it
abbrev pub GoesOn : {A : Type 0} → (A → List ℕ → Type 0) → List ℕ → Type 0
GoesOn {A} IsTextOf bytes = (x : A) × (rest : List ℕ) × IsTextOf x (bytes ++ rest) × (rest ≢ [])

-- the bytes end within a field, or before one: what stands before that field begins a text, and too
-- few bytes follow. How wide the field is, the bytes before it say
pub record IsCut {A : Type 0} (IsTextOf : A → List ℕ → Type 0) (width : List ℕ → ℕ) (bytes : List ℕ) : Type 0 where
  pub before : List ℕ
  pub part : List ℕ
  pub split : bytes ≡ before ++ part
  pub missing : length part < width before
  pub goes_on : GoesOn IsTextOf before

-- the field at this offset is wrong: what stands before it begins a text, and with the whole field
-- it begins none
pub record IsWrongAt
    {A : Type 0} (IsTextOf : A → List ℕ → Type 0) (width : List ℕ → ℕ) (bytes : List ℕ) (at : ℕ) : Type 0 where
  pub before : List ℕ
  pub wrong : List ℕ
  pub behind : List ℕ
  pub split : bytes ≡ before ++ (wrong ++ behind)
  pub offset : length before ≡ at
  pub whole : length wrong ≡ width before
  pub goes_on : GoesOn IsTextOf before
  pub breaks : IsFront IsTextOf (before ++ wrong) → ⊥

-- bytes are the text of one value
abbrev pub IsOneText : {A : Type 0} → (A → List ℕ → Type 0) → Type 0
IsOneText {A} IsTextOf = (x y : A) (bytes : List ℕ) → IsTextOf x bytes → IsTextOf y bytes → x ≡ y
