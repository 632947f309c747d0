-- Where a map with text keys stands for contents, a look-up and an update of the one are those of the other.
use Rattle.std.proofs.Common.{◌≡◌, ℕ, List, [], ◌∷◌, Option, None, Some, Bool, true, false, cond, refl, sym, ap, ◌∙◌, string_bytes, String, is_some}
use Rattle.std.specs.Option.{option_map}
use Rattle.std.specs.Ordering.{nat_cmp, is_eq}
use Rattle.std.specs.Cmp.{eq_by_cmp_equiv}
use Rattle.std.specs.Cmp.Lexicographic.{slice_cmp, nat_list_cmp_total}
use Rattle.std.specs.Str.{bytes_eq}
use Rattle.std.specs.Map.{lookup}
use Rattle.std.specs.FinMap.{find, get, insert, from_entries, same_map, get-from_entries, get-insert, remove, get-remove}
use Rattle.std.proofs.lemmas.Map.Lookups.{exact_bytes}
use Rattle.std.proofs.lemmas.Map.Text.{is_eq-slice_cmp}
use Rattle.package.specs.Content.{Content, contents_of}

cond_map : {A B : Type 0} (f : A → B) (b : Bool) (x : A) (o : Option A) → cond b (Some (f x)) (option_map f o) ≡ option_map f (cond b (Some x) o)
cond_map f true x o = refl
cond_map f false x o = refl

is_some-map : {A B : Type 0} (f : A → B) (o : Option A) → is_some (option_map f o) ≡ is_some o
is_some-map f None = refl
is_some-map f (Some x) = refl

module _ {V Y : Type 0} (f : V → Content) where
  find_held : (es : List (String Y × V)) (q : List ℕ) → find (slice_cmp nat_cmp) q (Rattle.std.specs.Prelude.map {B = List ℕ × Content} (λ e. (string_bytes e.0, f e.1)) es) ≡ option_map f (lookup (λ k. bytes_eq q (string_bytes k)) es)
  find_held [] q = refl
  find_held (e ∷ es) q =
      ap (λ b. cond b (Some (f e.1)) (find (slice_cmp nat_cmp) q (Rattle.std.specs.Prelude.map {B = List ℕ × Content} (λ e. (string_bytes e.0, f e.1)) es))) (is_eq-slice_cmp q (string_bytes e.0))
      ∙ ap (cond (bytes_eq q (string_bytes e.0)) (Some (f e.1))) (find_held es q)
      ∙ cond_map f (bytes_eq q (string_bytes e.0)) e.1 (lookup (λ k. bytes_eq q (string_bytes k)) es)

  pub get_held : (es : List (String Y × V)) (q : List ℕ) → get (contents_of f es) q ≡ option_map f (lookup (λ k. bytes_eq q (string_bytes k)) es)
  get_held es q = get-from_entries nat_list_cmp_total _ q ∙ find_held es q

  pub some_held : (es : List (String Y × V)) (q : List ℕ) → is_some (get (contents_of f es) q) ≡ is_some (lookup (λ k. bytes_eq q (string_bytes k)) es)
  some_held es q = ap is_some (get_held es q) ∙ is_some-map f (lookup (λ k. bytes_eq q (string_bytes k)) es)

  pub held_insert : (es fs : List (String Y × V)) (s : List ℕ) (w : V) → ((q : List ℕ) → lookup (λ k. bytes_eq q (string_bytes k)) fs ≡ cond (bytes_eq s q) (Some w) (lookup (λ k. bytes_eq q (string_bytes k)) es)) → contents_of f fs ≡ insert (contents_of f es) s (f w)
  held_insert es fs s w h = same_map nat_list_cmp_total exact_bytes (contents_of f fs) (insert (contents_of f es) s (f w)) (λ q.
      get_held fs q ∙ ap (option_map f) (h q)
      ∙ sym (cond_map f (bytes_eq s q) w (lookup (λ k. bytes_eq q (string_bytes k)) es))
      ∙ ap (cond (bytes_eq s q) (Some (f w))) (sym (get_held es q))
      ∙ ap (λ b. cond b (Some (f w)) (get (contents_of f es) q)) (sym (is_eq-slice_cmp s q) ∙ (eq_by_cmp_equiv nat_list_cmp_total).symm s q)
      ∙ sym (get-insert nat_list_cmp_total (contents_of f es) s (f w) q))

none_map : {A B : Type 0} (f : A → B) (b : Bool) (o : Option A) → cond b None (option_map f o) ≡ option_map f (cond b None o)
none_map f true o = refl
none_map f false o = refl

module _ {V Y : Type 0} (f : V → Content) where
  pub held_remove : (es fs : List (String Y × V)) (s : List ℕ) → ((q : List ℕ) → lookup (λ k. bytes_eq q (string_bytes k)) fs ≡ cond (bytes_eq s q) None (lookup (λ k. bytes_eq q (string_bytes k)) es)) → contents_of f fs ≡ remove (contents_of f es) s
  held_remove es fs s h = same_map nat_list_cmp_total exact_bytes (contents_of f fs) (remove (contents_of f es) s) (λ q.
      get_held f fs q ∙ ap (option_map f) (h q)
      ∙ sym (none_map f (bytes_eq s q) (lookup (λ k. bytes_eq q (string_bytes k)) es))
      ∙ ap (cond (bytes_eq s q) None) (sym (get_held f es q))
      ∙ ap (λ b. cond b None (get (contents_of f es) q)) (sym (is_eq-slice_cmp s q) ∙ (eq_by_cmp_equiv nat_list_cmp_total).symm s q)
      ∙ sym (get-remove nat_list_cmp_total (contents_of f es) s q))
