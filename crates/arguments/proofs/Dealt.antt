-- The boxes of all workers, among whom the mailboxes are dealt out.
use Rattle.std.proofs.Common.{◌≡◌, ℕ, List, [], ◌∷◌, ◌++◌, length, map, string_bytes, String, refl, sym, ap, ◌∙◌}
use Rattle.std.specs.Prelude.{◌%◌, ◌==◌}
use Rattle.std.specs.FinMap.{from_entries}
use Rattle.std.specs.declared.alloc.Global.{Global}
use Rattle.std.proofs.lemmas.List.{length-map}
use Rattle.std.proofs.lemmas.List.Elements.{filter-append}
use Rattle.std.proofs.lemmas.List.FromFn.{length-map-range_with_len}
use Rattle.package.specs.Content.{Content, OfMail, Seen, mail_package}
use Rattle.package.specs.Changes.{unset}
use Rattle.message_summary.specs.Mailboxes.{mail_type, new_mailboxes}
use Rattle.notifier_model.specs.Home.{key_hash}
use Rattle.arguments.specs.Setup.{mailboxes_named, dealt_names, made_boxes, dealt_boxes}

new_entries : (names : List (String Global)) → map {B = List ℕ × Content} (λ name. (string_bytes name, OfMail unset)) names ≡ map {B = List ℕ × Content} (λ name. (name, OfMail unset)) (map string_bytes names)
new_entries [] = refl
new_entries (name ∷ names) = ap (λ entries. (string_bytes name, OfMail unset) ∷ entries) (new_entries names)

pub new_mailboxes-named : (names : List (String Global)) → new_mailboxes names ≡ mailboxes_named (map string_bytes names)
new_mailboxes-named names =
    ap (λ entries. let m : Seen = record { name = mail_package; content_type = mail_type; contents = from_entries entries } in m) (new_entries names)

pub names-push : (n worker : ℕ) (names : List (List ℕ)) (name : List ℕ) → dealt_names n worker (names ++ name ∷ []) ≡ dealt_names n worker names ++ dealt_names n worker (name ∷ [])
names-push n worker names name = filter-append (λ (x : List ℕ). key_hash x % n == worker) names (name ∷ [])

pub boxes-len : {X : Type 0} (seen : X → List Seen) (all : List X) (n : ℕ) (names : List (List ℕ)) → map seen all ≡ dealt_boxes n names → length all ≡ n
boxes-len seen all n names are = sym (length-map all seen) ∙ ap length are ∙ length-map-range_with_len (λ w. made_boxes (dealt_names n w names)) 0 n
