-- Shapes and words of drawings, with what follows them.
use Rattle.std.proofs.Common.{◌≡◌, ℕ, ◌<◌, ◌^◌, List, ◌∷◌, ◌++◌, length, get_or, drop, refl, sym, ◌∙◌, ap, arith, append_assoc}
use Rattle.std.specs.Prelude.{codes}
use Rattle.std.specs.Fmt.{decimal}
use Rattle.std.proofs.lemmas.List.{append_cancel_left}
use Rattle.bg_picture.specs.Elements.{element_text, place_text, words_end, words_start}
use Rattle.bg_picture.specs.Elements.Element.{Shape, Words}
use Rattle.bg_picture.proofs.Cuts.{cut_decimal, cut_length, cut_number}

nine : (a n q p x m y r s u : List ℕ) → a ++ n ++ q ++ (p ++ x ++ m ++ y ++ r) ++ s ++ u
    ≡ a ++ (n ++ (q ++ (p ++ (x ++ (m ++ (y ++ (r ++ (s ++ u))))))))
nine a n q p x m y r s u = simp append_assoc

-- a shape and what follows, part by part
pub shape_before : (name : List ℕ) (x y : ℕ) (u : List ℕ) → element_text (Shape name x y) ++ u
    ≡ codes "<use href='#" ++ (name ++ 39 ∷ (codes " x='" ++ (decimal x ++ 39 ∷ (codes " y='" ++ (decimal y ++ 39 ∷ (codes "/>" ++ u))))))
unfolding element_text place_text
shape_before name x y u =
    nine (codes "<use href='#") name (codes "'") (codes " x='") (decimal x) (codes "' y='") (decimal y) (codes "'") (codes "/>") u

pub record SameShape (m n : List ℕ) (x y a b : ℕ) (u v : List ℕ) : Type 0 where
  pub name : m ≡ n
  pub across : x ≡ a
  pub down : y ≡ b
  pub rest : u ≡ v

pub shape_alike : (m n : List ℕ) (x y a b : ℕ) (u v : List ℕ) → length m ≡ length n → x < 2 ^ 64 → y < 2 ^ 64 → a < 2 ^ 64 → b < 2 ^ 64
    → element_text (Shape m x y) ++ u ≡ element_text (Shape n a b) ++ v → SameShape m n x y a b u v
shape_alike m n x y a b u v long fx fy fa fb e =
    let all = sym (shape_before m x y u) ∙ (e ∙ shape_before n a b v) in
    let named = cut_length m n (39 ∷ (codes " x='" ++ (decimal x ++ 39 ∷ (codes " y='" ++ (decimal y ++ 39 ∷ (codes "/>" ++ u))))))
    (39 ∷ (codes " x='" ++ (decimal a ++ 39 ∷ (codes " y='" ++ (decimal b ++ 39 ∷ (codes "/>" ++ v)))))) long (ap (drop 12) all) in
    let across = cut_decimal 39 x a (codes " y='" ++ (decimal y ++ 39 ∷ (codes "/>" ++ u))) (codes " y='" ++ (decimal b ++ 39 ∷ (codes "/>" ++ v)))
    (omega arith) fx fa (ap (drop 5) named.1) in
    let down = cut_decimal 39 y b (codes "/>" ++ u) (codes "/>" ++ v) (omega arith) fy fb (ap (drop 4) across.1) in
    record {
      name = named.0;
      across = across.0;
      down = down.0;
      rest = ap (drop 2) down.1;
    }

-- words and what follows
words_before : (x y n : ℕ) (u : List ℕ) → element_text (Words x y (decimal n)) ++ u ≡ words_start x y ++ (decimal n ++ 60 ∷ (codes "/text>" ++ u))
unfolding element_text words_end
words_before x y n u = simp append_assoc

pub words_alike : (x y m n : ℕ) (u v : List ℕ) → m < 2 ^ 64 → n < 2 ^ 64
    → element_text (Words x y (decimal m)) ++ u ≡ element_text (Words x y (decimal n)) ++ v → (m ≡ n) × (u ≡ v)
words_alike x y m n u v fm fn e =
    let all = sym (words_before x y m u) ∙ (e ∙ words_before x y n v) in
    let number = cut_number 60 m n (codes "/text>" ++ u) (codes "/text>" ++ v) (λ b low high same. omega (arith, low, high, same)) fm fn
    (append_cancel_left (words_start x y) (decimal m ++ 60 ∷ (codes "/text>" ++ u)) (decimal n ++ 60 ∷ (codes "/text>" ++ v)) all) in
    (number.0, ap (drop 6) number.1)

pub words_second : (x y : ℕ) (words u : List ℕ) → get_or (element_text (Words x y words) ++ u) 1 0 ≡ 116
unfolding element_text words_start place_text
words_second x y words u = refl

pub four : (a b c d u : List ℕ) → a ++ b ++ c ++ d ++ u ≡ a ++ (b ++ (c ++ (d ++ u)))
four a b c d u = simp append_assoc
