-- What puts do to a page.
use Rattle.std.specs.Prelude.{◌≡◌, true, ℕ, List, [], ◌∷◌, ◌++◌, codes}
use Rattle.sip_write.specs.declared.page.Page.{Page}

-- a text was put behind the bytes of a page: all of it where the page is whole afterwards, else some bytes. A page that isn't whole stays so
pub record Puts (before : Page) (text : List ℕ) (after : Page) : Type 0 where
  pub put : List ℕ
  pub behind : after.bytes.items ≡ before.bytes.items ++ put
  pub whole : after.is_whole ≡ true → (before.is_whole ≡ true) × (put ≡ text)

-- texts, each behind a comma and SP
abbrev pub next_texts : List (List ℕ) → List ℕ
next_texts [] = []
next_texts (text ∷ texts) = codes ", " ++ (text ++ next_texts texts)
