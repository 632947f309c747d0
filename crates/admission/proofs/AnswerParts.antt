-- The lines that a 401, a 403, a 413 and a 503 share.
use Rattle.std.proofs.Common.{◌≡◌, ℕ, ◌+◌, ◌-◌, ◌<◌, ◌≤◌, get_or, append-nil, List, [], ◌∷◌, ◌++◌, length, map, take, drop, codes, refl, sym, ap, ◌∙◌, append_assoc, arith}
use Rattle.std.proofs.lemmas.List.{take_at, take_more, drop_at, length-append}
use Rattle.sip_text.specs.declared.address.Addr.{Addr}
use Rattle.sip_read.specs.declared.message.Request.{Request}
use Rattle.std.specs.Fmt.{decimal, digits}
use Rattle.sip_write.specs.declared.status.Status.TheVariants as status
use Rattle.sip_write.specs.Answer.{status_line, via_lines, dialog_lines, answer_lines, answer_text}
use Rattle.sip_write.specs.Lines.{joined, line_end, header}
use Rattle.sip_write.proofs.Joins.{joined-append}
use Rattle.admission.specs.Challenge.{forbidden, forbidden_text, challenge_text, large_text, unavailable_text}

-- the lines between the first and the last ones
abbrev pub inner : Addr → Request → List ℕ → List (List ℕ)
inner source r tag = via_lines source r.head.top r.head.vias ++ dialog_lines (forbidden source r tag)

abbrev pub first : List ℕ
first = codes "SIP/2.0 403 Forbidden\r\n"

abbrev pub last : List ℕ
last = codes "Content-Length: 0\r\n\r\n"

end_lines : joined (header (codes "Content-Length") (codes "0") ∷ [] ∷ []) ≡ last
unfolding joined
end_lines = refl

first_line : (lines : List (List ℕ)) (line : List ℕ) → joined (line ∷ lines) ≡ (line ++ line_end) ++ joined lines
unfolding joined
first_line lines line = sym (append_assoc line line_end (joined lines))

-- the number in the first line
decimal_403 : decimal 403 ≡ codes "403"
unfolding digits
decimal_403 = refl

line_403 : status_line status.Forbidden ≡ codes "SIP/2.0 403 Forbidden"
line_403 = ap (λ (x : List ℕ). codes "SIP/2.0 " ++ (x ++ codes " Forbidden")) decimal_403

pub forbidden_parts : (source : Addr) (r : Request) (tag : List ℕ) → forbidden_text source r tag ≡ first ++ (joined (inner source r tag) ++ last)
unfolding forbidden_text answer_text answer_lines
forbidden_parts source r tag =
    first_line (via_lines source r.head.top r.head.vias ++ (dialog_lines (forbidden source r tag) ++ header (codes "Content-Length") (codes "0") ∷ [] ∷ [])) (status_line status.Forbidden)
    ∙ ap (λ (x : List ℕ). (x ++ line_end) ++ joined (via_lines source r.head.top r.head.vias ++ (dialog_lines (forbidden source r tag) ++ header (codes "Content-Length") (codes "0") ∷ [] ∷ []))) line_403
    ∙ ap (λ (x : List ℕ). first ++ x) (
    ap joined (sym (append_assoc (via_lines source r.head.top r.head.vias) (dialog_lines (forbidden source r tag)) (header (codes "Content-Length") (codes "0") ∷ [] ∷ [])))
    ∙ joined-append (inner source r tag) (header (codes "Content-Length") (codes "0") ∷ [] ∷ [])
    ∙ ap (λ (x : List ℕ). joined (inner source r tag) ++ x) end_lines)

one_line : (line : List ℕ) → joined (line ∷ []) ≡ line ++ line_end
unfolding joined
one_line line = ap (λ (x : List ℕ). line ++ x) (append-nil line_end)

-- a first line, the lines that are shared, further lines, and the last ones
further_parts : (source : Addr) (r : Request) (tag : List ℕ) (line : List ℕ) (more : List (List ℕ))
    → joined (line ∷ (via_lines source r.head.top r.head.vias ++ (dialog_lines (forbidden source r tag) ++ (more ++ header (codes "Content-Length") (codes "0") ∷ [] ∷ []))))
    ≡ (((line ++ line_end) ++ joined (inner source r tag)) ++ joined more) ++ last
further_parts source r tag line more =
    let end : List (List ℕ) = header (codes "Content-Length") (codes "0") ∷ [] ∷ [] in
    first_line (via_lines source r.head.top r.head.vias ++ (dialog_lines (forbidden source r tag) ++ (more ++ end))) line
    ∙ ap (λ (x : List ℕ). (line ++ line_end) ++ x) (
    ap joined (sym (append_assoc (via_lines source r.head.top r.head.vias) (dialog_lines (forbidden source r tag)) (more ++ end)))
    ∙ joined-append (inner source r tag) (more ++ end)
    ∙ ap (λ (x : List ℕ). joined (inner source r tag) ++ x) (joined-append more end ∙ ap (λ (x : List ℕ). joined more ++ x) end_lines))
    ∙ regroup (line ++ line_end) (joined (inner source r tag)) (joined more) last where
      regroup : (a b c d : List ℕ) → a ++ (b ++ (c ++ d)) ≡ ((a ++ b) ++ c) ++ d
      regroup a b c d = simp append_assoc refl

pub challenge_parts : (source : Addr) (r : Request) (tag : List ℕ) (challenges : List (List ℕ))
    → challenge_text source r tag challenges
    ≡ ((codes "SIP/2.0 401 Unauthorized\r\n" ++ joined (inner source r tag)) ++ joined (map (header (codes "WWW-Authenticate")) challenges)) ++ last
unfolding challenge_text
challenge_parts source r tag challenges =
    further_parts source r tag (codes "SIP/2.0 401 Unauthorized") (map (header (codes "WWW-Authenticate")) challenges)

none_joined : joined [] ≡ []
unfolding joined
none_joined = refl

pub large_parts : (source : Addr) (r : Request) (tag : List ℕ)
    → large_text source r tag ≡ (codes "SIP/2.0 413 Request Entity Too Large\r\n" ++ joined (inner source r tag)) ++ last
unfolding large_text
large_parts source r tag =
    let front : List ℕ = codes "SIP/2.0 413 Request Entity Too Large\r\n" ++ joined (inner source r tag) in
    further_parts source r tag (codes "SIP/2.0 413 Request Entity Too Large") []
    ∙ ap (λ (x : List ℕ). (front ++ x) ++ last) none_joined ∙ ap (λ (x : List ℕ). x ++ last) (append-nil front)

pub unavailable_parts : (source : Addr) (r : Request) (tag : List ℕ)
    → unavailable_text source r tag
    ≡ ((codes "SIP/2.0 503 Service Unavailable\r\n" ++ joined (inner source r tag)) ++ (header (codes "Retry-After") (codes "60") ++ line_end)) ++ last
unfolding unavailable_text
unavailable_parts source r tag =
    further_parts source r tag (codes "SIP/2.0 503 Service Unavailable") (header (codes "Retry-After") (codes "60") ∷ [])
    ∙ ap (λ (x : List ℕ). ((codes "SIP/2.0 503 Service Unavailable\r\n" ++ joined (inner source r tag)) ++ x) ++ last) (one_line (header (codes "Retry-After") (codes "60")))

-- what is left of a text without its ends
pub between : (text front mid back : List ℕ) → text ≡ front ++ (mid ++ back) → take (length text - (length front + length back)) (drop (length front) text) ≡ mid
between text front mid back e =
    let len : length text ≡ length front + (length mid + length back) = ap length e ∙ length-append front (mid ++ back) ∙ ap (λ (n : ℕ). length front + n) (length-append mid back) in
    let n : length text - (length front + length back) ≡ length mid = omega (arith, len) in
    rw n (rw e (rw (drop_at front (mid ++ back) (length front) refl) (take_at mid back (length mid) refl)))

pub long_enough : (text front mid back : List ℕ) → text ≡ front ++ (mid ++ back) → length front + length back ≤ length text
long_enough text front mid back e =
    let len : length text ≡ length front + (length mid + length back) = ap length e ∙ length-append front (mid ++ back) ∙ ap (λ (n : ℕ). length front + n) (length-append mid back) in
    omega (arith, len)

-- ---- lines that are appended one after the other

pub no_lines : (xs : List ℕ) → xs ≡ xs ++ joined []
unfolding joined
no_lines xs = sym (append-nil xs)

map_more : (f : List ℕ → List ℕ) (xs : List (List ℕ)) (x : List ℕ) → map f (xs ++ x ∷ []) ≡ map f xs ++ f x ∷ []
map_more f [] x = refl
map_more f (y ∷ xs) x = ap (λ (ys : List (List ℕ)). f y ∷ ys) (map_more f xs x)

pub one_more_line : (f : List ℕ → List ℕ) (xs : List (List ℕ)) (i : ℕ) (d v before old new : List ℕ) → i < length xs → v ≡ get_or xs i d
    → old ≡ before ++ joined (map f (take i xs)) → new ≡ old ++ (f v ++ line_end) → new ≡ before ++ joined (map f (take (i + 1) xs))
one_more_line f xs i d v before old new within is h k =
    let more : map f (take (i + 1) xs) ≡ map f (take i xs) ++ f v ∷ [] =
    ap (map f) (take_more xs i d within) ∙ map_more f (take i xs) (get_or xs i d) ∙ ap (λ (w : List ℕ). map f (take i xs) ++ f w ∷ []) (sym is) in
    k ∙ ap (λ (o : List ℕ). o ++ (f v ++ line_end)) h ∙ append_assoc before (joined (map f (take i xs))) (f v ++ line_end)
    ∙ ap (λ (o : List ℕ). before ++ (joined (map f (take i xs)) ++ o)) (sym (one_line (f v)))
    ∙ ap (λ (o : List ℕ). before ++ o) (sym (joined-append (map f (take i xs)) (f v ∷ []))) ∙ ap (λ (ls : List (List ℕ)). before ++ joined ls) (sym more)
