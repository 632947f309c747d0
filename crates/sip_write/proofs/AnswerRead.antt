-- A written answer is read as a response with the same status.
use Rattle.std.proofs.Common.{◌≡◌, ◌≢◌, ℕ, Bool, suc, ◌<◌, ◌≤◌, ◌+◌, ◌/◌, ◌%◌, ◌^◌, true, false, List, [], ◌∷◌, ◌++◌, length, map, Option, Some, None, option_map, refl, sym, ap, subst, ◌∙◌, append_assoc, append-nil, arith, codes, decimal}
use Rattle.std.specs.Prelude.{All, IfSome}
use Rattle.std.specs.List.{filter_map}
use Rattle.std.proofs.lemmas.Bool.Decides.{nat_tests}
use Rattle.std.proofs.lemmas.Fmt.{decimal_by_steps}
use Rattle.std.proofs.lemmas.List.{length-append}
use Rattle.std.proofs.lemmas.List.Elements.{filter_map-append}
use Rattle.sip_text.specs.declared.scan.Class.TheVariants as class
use Rattle.sip_text.specs.Bytes.{is_in, is_within}
use Rattle.sip_text.specs.Grammar.{AllPassing, IsWord}
use Rattle.sip_text.specs.Grammar.{IsToken}
use Rattle.event_headers.specs.Headers.{Fits}
use Rattle.event_headers.specs.Written.{parameter_text, comma_joined}
use Rattle.sip_text.proofs.NotEmpty.{cons_some, some_before}
use Rattle.sip_text.proofs.Numerals.{spelled}
use Rattle.sip_text.proofs.Trims.{all-append}
use Rattle.sip_read.specs.declared.value.Sequence.{Sequence}
use Rattle.sip_read.specs.declared.datagram.Header.TheVariants as headers
use Rattle.sip_text.specs.declared.address.Addr.{Addr}
use Rattle.sip_read.specs.declared.message.Party.{Party}
use Rattle.sip_read.specs.Addresses.{IsParty}
use Rattle.sip_read.specs.Calls.{is_visible, IsSequence}
use Rattle.sip_read.specs.FirstLine.{status, IsStatusLine}
use Rattle.sip_read.specs.Items.{Item, item, value_in, values_of}
use Rattle.sip_read.specs.Message.{HasHead, IsBody}
use Rattle.sip_read.specs.Vias.{Hop, via_of, IsHop}
use Rattle.sip_read.proofs.PlainLines.{on_wire, IsPlain, plain_head}
use Rattle.sip_write.specs.declared.status.Status.{Status}
use Rattle.sip_write.specs.declared.status.Status.TheVariants as statuses
use Rattle.sip_write.specs.Answer.{AnswerText, status_line, via_lines, dialog_lines, option_lines, refer_sub_text, answer_lines, answer_text, added_tag}
use Rattle.sip_write.specs.AnswerAgain.{IsViaField, IsRouteField, IsAnswer, kept_tag, AnswerIsReadAgain}
use Rattle.sip_write.specs.Lines.{joined, header, header_of, contact_text}
use Rattle.sip_write.specs.ReadAgain.{IsAddr, IsFieldText}
use Rattle.sip_write.specs.Status.{code, phrase}
use Rattle.sip_write.specs.Via.{top_via_text}
use Rattle.sip_write.proofs.FieldTexts.{all_within, token_visible, visible_field, spaced_field, field_more, printed_text, comma_space, decimal_visible, literal_name, plain}
use Rattle.sip_write.proofs.NotifyRead.{Laid, done, one, none, laid_plain, wire, joined_first, tagged, tag_visible, contact_visible}
use Rattle.sip_write.proofs.TopVia.{top_again}
use Rattle.sip_write.proofs.TopViaText.{hop_starts, top_field}

-- ---- the status line

-- how many digits a number has
record HasDigits (n : ℕ) (digits : List ℕ) : Type 0 where
  one_digit : n < 10 → length digits ≡ 1
  two_digits : 10 ≤ n → n < 100 → length digits ≡ 2
  three_digits : 100 ≤ n → n < 1000 → length digits ≡ 3

digits_counted : (n : ℕ) → n < 2 ^ 64 → HasDigits n (decimal n)
digits_counted n small = decimal_by_steps HasDigits first more n small where
  first : (m : ℕ) → m < 10 → HasDigits m ((48 + m) ∷ [])
  first m lt = record { one_digit = λ a. refl; two_digits = λ a b. absurd (omega (arith, a, lt)); three_digits = λ a b. absurd (omega (arith, a, lt)) }

  more : (m : ℕ) (ds : List ℕ) → 10 ≤ m → HasDigits (m / 10) ds → HasDigits m (ds ++ ((48 + m % 10) ∷ []))
  more m ds le h =
      let len : length (ds ++ ((48 + m % 10) ∷ [])) ≡ length ds + 1 = length-append ds ((48 + m % 10) ∷ []) in
      record {
        one_digit = λ a. absurd (omega (arith, a, le));
        two_digits = λ a b. (let k = h.one_digit (omega (arith, b)) in omega (arith, len, k));
        three_digits = λ a b. (let k = h.two_digits (omega (arith, a)) (omega (arith, b)) in omega (arith, len, k));
      }

record IsStatus (s : Status) : Type 0 where
  least : 100 ≤ code s
  most : code s ≤ 699
  printed : AllPassing (is_within 32 126) (phrase s)

status_is : (s : Status) → IsStatus s
status_is statuses.Ok = record { least = omega arith; most = omega arith; printed = refl }
status_is statuses.Accepted = record { least = omega arith; most = omega arith; printed = refl }
status_is statuses.BadRequest = record { least = omega arith; most = omega arith; printed = refl }
status_is statuses.Forbidden = record { least = omega arith; most = omega arith; printed = refl }
status_is statuses.NotFound = record { least = omega arith; most = omega arith; printed = refl }
status_is statuses.MethodNotAllowed = record { least = omega arith; most = omega arith; printed = refl }
status_is statuses.NotAcceptable = record { least = omega arith; most = omega arith; printed = refl }
status_is statuses.UnsupportedUriScheme = record { least = omega arith; most = omega arith; printed = refl }
status_is statuses.BadExtension = record { least = omega arith; most = omega arith; printed = refl }
status_is statuses.IntervalTooBrief = record { least = omega arith; most = omega arith; printed = refl }
status_is statuses.CallDoesNotExist = record { least = omega arith; most = omega arith; printed = refl }
status_is statuses.BadEvent = record { least = omega arith; most = omega arith; printed = refl }
status_is statuses.ServerInternalError = record { least = omega arith; most = omega arith; printed = refl }
status_is statuses.ServiceUnavailable = record { least = omega arith; most = omega arith; printed = refl }

printed_line : (x : ℕ) → is_within 32 126 x ≡ true → is_in class.Line x ≡ true
printed_line x e = grind (arith, nat_tests)

printed_shown : (x : ℕ) → is_within 32 126 x ≡ true → is_in class.Shown x ≡ true
printed_shown x e = grind (arith, nat_tests)

digit_line : (x : ℕ) → is_in class.Digit x ≡ true → is_in class.Line x ≡ true
digit_line x e = grind (arith, nat_tests)

status_line_is : (s : Status) → IsStatusLine (status_line s) (code s) (phrase s)
status_line_is s =
    let is = status_is s in
    let k = spelled (code s) (omega (arith, is.most)) in
    record {
      name = codes "SIP";
      version = codes "2.0";
      digits = decimal (code s);
      is_name = literal_name 83 (codes "IP") refl;
      is_version = literal_name 50 (codes ".0") refl;
      sip = refl;
      two = refl;
      are_digits = k.0;
      three = (digits_counted (code s) (omega (arith, is.most))).three_digits is.least (omega (arith, is.most));
      number = sym k.1;
      least = is.least;
      most = is.most;
      no_control = all_within (is_within 32 126) (is_in class.Shown) printed_shown (phrase s) is.printed;
      is_text = printed_text (phrase s) is.printed;
      whole = refl;
    }

status_bytes : (s : Status) → AllPassing (is_in class.Line) (status_line s)
status_bytes s =
    let is = status_is s in
    let digits : AllPassing (is_in class.Line) (decimal (code s)) = all_within (is_in class.Digit) (is_in class.Line) digit_line (decimal (code s)) (spelled (code s) (omega (arith, is.most))).0.0 in
    all-append (is_in class.Line) (decimal (code s)) (codes " " ++ phrase s) digits (all_within (is_within 32 126) (is_in class.Line) printed_line (phrase s) is.printed)

-- ---- Via and Record-Route

first_of_all : {X : Type 0} (P : X → Type 0) (x : X) (xs : List X) → All P (x ∷ xs) → P x
first_of_all P x xs h = h 0 x (omega arith)

others_of_all : {X : Type 0} (P : X → Type 0) (x : X) (xs : List X) → All P (x ∷ xs) → All P xs
others_of_all P x xs h = λ k d lt. h (suc k) d (omega (arith, lt))

via_line : (text : List ℕ) (h : Hop) → IsHop text h → IsFieldText text → IsPlain (header (codes "Via") text) (item headers.Via h ∷ [])
via_line text h is field = plain (codes "Via") text (item headers.Via h ∷ []) (literal_name 86 (codes "ia") refl) field ((h, is, refl), field.trimmed.0)

vias_laid : (hops : List Hop) (lines : List (List ℕ)) (xs : List Item) → All IsViaField hops → Laid lines xs → Laid (map (header (codes "Via")) (map (λ h. h.text) hops) ++ lines) (map (item headers.Via) hops ++ xs)
vias_laid [] lines xs all h = h
vias_laid (hop ∷ hops) lines xs all h =
    let k = first_of_all IsViaField hop hops all in
    one (via_line hop.text hop k.0 k.1) (vias_laid hops lines xs (others_of_all IsViaField hop hops all) h)

routes_laid : (routes : List (List ℕ)) (lines : List (List ℕ)) (xs : List Item) → All IsRouteField routes → Laid lines xs → Laid (map (header (codes "Record-Route")) routes ++ lines) (map (item headers.RecordRoute) routes ++ xs)
routes_laid [] lines xs all h = h
routes_laid (route ∷ routes) lines xs all h =
    let k = first_of_all IsRouteField route routes all in
    one (plain (codes "Record-Route") route (item headers.RecordRoute route ∷ []) (literal_name 82 (codes "ecord-Route") refl) k.1 ((k.0, refl), k.1.trimmed.0)) (routes_laid routes lines xs (others_of_all IsRouteField route routes all) h)

-- ---- To

to_is : (text : List ℕ) (own tag : Option (List ℕ)) → IsParty text (record { text = text; tag = own }) → IfSome tag (IsWord class.Token)
    → IsParty (text ++ parameter_text (codes "tag") (added_tag own tag)) (record { text = text ++ parameter_text (codes "tag") (added_tag own tag); tag = kept_tag own tag })
to_is text (Some own) tag is w = record { address = is.address; uri = is.uri; behind = is.behind; parameters = is.parameters; is_address = is.is_address; are = is.are; tag = is.tag; same = refl; whole = append-nil text ∙ is.whole }
to_is text None None is w = record { address = is.address; uri = is.uri; behind = is.behind; parameters = is.parameters; is_address = is.is_address; are = is.are; tag = is.tag; same = refl; whole = append-nil text ∙ is.whole }
to_is text None (Some tag) is w = tagged text tag is w

tag_field : (own tag : Option (List ℕ)) → IfSome tag (IsWord class.Token) → IsFieldText (parameter_text (codes "tag") (added_tag own tag))
tag_field (Some own) tag w = visible_field [] refl
tag_field None None w = visible_field [] refl
tag_field None (Some tag) w = visible_field _ (tag_visible tag w)

party_is : (p : Party) → IsParty p.text p → IsParty p.text (record { text = p.text; tag = p.tag })
party_is p is = record { address = is.address; uri = is.uri; behind = is.behind; parameters = is.parameters; is_address = is.is_address; are = is.are; tag = is.tag; same = refl; whole = is.whole }

-- ---- optional lines

abbrev listed : {X : Type 0} → Option X → List X
listed None = []
listed (Some x) = x ∷ []

contact_laid : (me : Option Addr) (lines : List (List ℕ)) (xs : List Item) → IfSome me IsAddr → Laid lines xs
    → Laid (header_of (codes "Contact") (option_map contact_text me) ++ lines) (map (item headers.Contact) (listed (option_map contact_text me)) ++ xs)
contact_laid None lines xs is h = h
contact_laid (Some me) lines xs is h =
    one (plain (codes "Contact") (contact_text me) (item headers.Contact (contact_text me) ∷ []) (literal_name 67 (codes "ontact") refl) (visible_field _ (contact_visible me is)) refl) h

expires_laid : (seconds : Option ℕ) (lines : List (List ℕ)) (xs : List Item) → IfSome seconds Fits → Laid lines xs
    → Laid (header_of (codes "Expires") (option_map decimal seconds) ++ lines) (map (item headers.Expires) (listed (option_map decimal seconds)) ++ xs)
expires_laid None lines xs is h = h
expires_laid (Some n) lines xs is h =
    one (plain (codes "Expires") (decimal n) (item headers.Expires (decimal n) ∷ []) (literal_name 69 (codes "xpires") refl) (visible_field _ (decimal_visible n (omega (arith, is)))) refl) h

least_laid : (seconds : Option ℕ) (lines : List (List ℕ)) (xs : List Item) → IfSome seconds Fits → Laid lines xs → Laid (header_of (codes "Min-Expires") (option_map decimal seconds) ++ lines) xs
least_laid None lines xs is h = h
least_laid (Some n) lines xs is h = none (plain (codes "Min-Expires") (decimal n) [] (literal_name 77 (codes "in-Expires") refl) (visible_field _ (decimal_visible n (omega (arith, is)))) refl) h

-- texts with a comma and SP between two of them
comma_between : (x y : List ℕ) → IsFieldText x → x ≢ [] → IsFieldText y → y ≢ [] → IsFieldText (x ++ 44 ∷ 32 ∷ y)
comma_between [] y a some_x b some_y = absurd (some_x refl)
comma_between (c ∷ x) y a some_x b some_y =
    field_more (c ∷ x) (44 ∷ 32 ∷ y) a (comma_space y b some_y)

tokens_field : (t : List ℕ) (ts : List (List ℕ)) → All IsToken (t ∷ ts) → IsFieldText (comma_joined (t ∷ ts)) × (comma_joined (t ∷ ts) ≢ [])
unfolding comma_joined
tokens_field t [] all =
    let k = first_of_all IsToken t [] all in
    (visible_field t (all_within (is_in class.Token) is_visible token_visible t k.0), k.1)
tokens_field t (u ∷ ts) all =
    let k = first_of_all IsToken t (u ∷ ts) all in
    let rest = tokens_field u ts (others_of_all IsToken t (u ∷ ts) all) in
    (comma_between t (comma_joined (u ∷ ts)) (visible_field t (all_within (is_in class.Token) is_visible token_visible t k.0)) k.1 rest.0 rest.1, some_before t _ k.1)

list_field : (ts : List (List ℕ)) → All IsToken ts → IsFieldText (comma_joined ts)
unfolding comma_joined
list_field [] all = visible_field [] refl
list_field (t ∷ ts) all = (tokens_field t ts all).0

allow_laid : (ts : Option (List (List ℕ))) (lines : List (List ℕ)) (xs : List Item) → IfSome ts (All IsToken) → Laid lines xs → Laid (header_of (codes "Allow") (option_map comma_joined ts) ++ lines) xs
allow_laid None lines xs is h = h
allow_laid (Some ts) lines xs is h = none (plain (codes "Allow") (comma_joined ts) [] (literal_name 65 (codes "llow") refl) (list_field ts is) refl) h

events_laid : (ts : Option (List (List ℕ))) (lines : List (List ℕ)) (xs : List Item) → IfSome ts (All IsToken) → Laid lines xs → Laid (header_of (codes "Allow-Events") (option_map comma_joined ts) ++ lines) xs
events_laid None lines xs is h = h
events_laid (Some ts) lines xs is h = none (plain (codes "Allow-Events") (comma_joined ts) [] (literal_name 65 (codes "llow-Events") refl) (list_field ts is) refl) h

unsupported_laid : (ts : Option (List (List ℕ))) (lines : List (List ℕ)) (xs : List Item) → IfSome ts (All IsToken) → Laid lines xs → Laid (header_of (codes "Unsupported") (option_map comma_joined ts) ++ lines) xs
unsupported_laid None lines xs is h = h
unsupported_laid (Some ts) lines xs is h = none (plain (codes "Unsupported") (comma_joined ts) [] (literal_name 85 (codes "nsupported") refl) (list_field ts is) refl) h

refer_sub_laid : (without : Bool) (lines : List (List ℕ)) (xs : List Item) → Laid lines xs
    → Laid (header_of (codes "Refer-Sub") (refer_sub_text without) ++ lines) (map (item headers.ReferSub) (listed (refer_sub_text without)) ++ xs)
refer_sub_laid false lines xs h = h
refer_sub_laid true lines xs h = one (plain (codes "Refer-Sub") (codes "false") (item headers.ReferSub (codes "false") ∷ []) (literal_name 82 (codes "efer-Sub") refl) (visible_field (codes "false") refl) refl) h

-- ---- all lines

abbrev size_line : List (List ℕ)
size_line = header (codes "Content-Length") (codes "0") ∷ []

options_then : AnswerText → List (List ℕ) → List (List ℕ)
options_then a lines =
    header_of (codes "Contact") (option_map contact_text a.contact)
    ++ (header_of (codes "Expires") (option_map decimal a.expires)
    ++ (header_of (codes "Min-Expires") (option_map decimal a.min_expires)
    ++ (header_of (codes "Allow") (option_map comma_joined a.allow)
    ++ (header_of (codes "Allow-Events") (option_map comma_joined a.allow_events)
    ++ (header_of (codes "Unsupported") (option_map comma_joined a.unsupported)
    ++ (header_of (codes "Refer-Sub") (refer_sub_text a.without_subscription) ++ lines))))))

options_are : (a : AnswerText) (lines : List (List ℕ)) → option_lines a ++ lines ≡ options_then a lines
unfolding options_then
options_are a lines = simp append_assoc refl

options_more : (a : AnswerText) (xs ys : List (List ℕ)) → options_then a xs ++ ys ≡ options_then a (xs ++ ys)
unfolding options_then
options_more a xs ys = simp append_assoc refl

middle : AnswerText → Hop → List Hop → List (List ℕ)
middle a top others =
    header (codes "Via") (top_via_text a.source (via_of top) top.text)
    ∷ (map (header (codes "Via")) (map (λ h. h.text) others) ++ (map (header (codes "Record-Route")) a.record_routes ++ (dialog_lines a ++ options_then a size_line)))

answer_is : (a : AnswerText) (top : Hop) (others : List Hop) → IsAnswer a top others → answer_text a ≡ status_line a.status ++ 13 ∷ 10 ∷ (on_wire (middle a top others) ++ 13 ∷ 10 ∷ [])
unfolding answer_text answer_lines middle
answer_is a top others h =
    let vias : List (List ℕ) = map (header (codes "Via")) (map (λ h. h.text) others) in
    let routes : List (List ℕ) = map (header (codes "Record-Route")) a.record_routes in
    let first : List ℕ = header (codes "Via") (top_via_text a.source (via_of top) top.text) in
    let end : List (List ℕ) = size_line ++ [] ∷ [] in
    let tops : via_lines a.source a.head.top a.head.vias ≡ first ∷ vias = ap (λ v. via_lines a.source v a.head.vias) h.top_via ∙ ap (via_lines a.source (via_of top)) h.vias in
    let whole : answer_lines a ≡ status_line a.status ∷ (middle a top others ++ [] ∷ []) =
    ap (λ (ls : List (List ℕ)). status_line a.status ∷ (ls ++ (routes ++ (dialog_lines a ++ (option_lines a ++ end))))) tops
    ∙ ap (λ (ls : List (List ℕ)). status_line a.status ∷ first ∷ (vias ++ (routes ++ (dialog_lines a ++ ls)))) (options_are a end ∙ sym (options_more a size_line ([] ∷ [])))
    ∙ ap (λ (ls : List (List ℕ)). status_line a.status ∷ first ∷ ls) (sym (shifted vias routes (dialog_lines a) (options_then a size_line))) in
    ap joined whole ∙ sym (append-nil (joined (status_line a.status ∷ (middle a top others ++ [] ∷ []))))
    ∙ joined_first (status_line a.status) (middle a top others ++ [] ∷ []) [] ∙ ap (λ (l : List ℕ). status_line a.status ++ 13 ∷ 10 ∷ l) (wire (middle a top others) []) where
      shifted : (v r d o : List (List ℕ)) → (v ++ (r ++ (d ++ o))) ++ [] ∷ [] ≡ v ++ (r ++ (d ++ (o ++ [] ∷ [])))
      shifted v r d o = simp append_assoc refl

-- ---- the values in order

abbrev marked_hop : AnswerText → Hop → Hop
marked_hop a top = record { text = top_via_text a.source (via_of top) top.text; sent_by = top.sent_by; branch = top.branch; bare_rport = false }

abbrev answer_to : AnswerText → Party
answer_to a = record { text = a.head.to.text ++ parameter_text (codes "tag") (added_tag a.head.to.tag a.tag); tag = kept_tag a.head.to.tag a.tag }

abbrev sequence : AnswerText → Sequence
sequence a = record { number = a.head.cseq; method = a.head.cseq_method }

abbrev core : AnswerText → List Item
core a = item headers.From a.head.from ∷ item headers.To (answer_to a) ∷ item headers.CallId a.head.call_id ∷ item headers.CSeq (sequence a) ∷ []

-- the items of the last lines
abbrev last_items : AnswerText → List Item
last_items a = map (item headers.ReferSub) (listed (refer_sub_text a.without_subscription)) ++ item headers.ContentLength (codes "0") ∷ []

abbrev items : AnswerText → Hop → List Hop → List Item
items a top others =
    item headers.Via (marked_hop a top) ∷ (map (item headers.Via) others ++ (map (item headers.RecordRoute) a.record_routes ++ (core a ++ (map (item headers.Contact) (listed (option_map contact_text a.contact)) ++ (map (item headers.Expires) (listed (option_map decimal a.expires)) ++ last_items a)))))

abbrev nones : {X Y : Type 0} → (Item → Option Y) → (X → Item) → Type 0
nones {X} f g = (x : X) → f (g x) ≡ None

passed : {X Y : Type 0} (f : Item → Option Y) (g : X → Item) → nones f g → (xs : List X) → filter_map f (map g xs) ≡ []
passed f g h [] = refl
passed f g h (x ∷ xs) = rw (h x) (passed f g h xs)

hops_found : (hops : List Hop) → values_of headers.Via (map (item headers.Via) hops) ≡ hops
hops_found [] = refl
hops_found (hop ∷ hops) = ap (λ (l : List Hop). hop ∷ l) (hops_found hops)

-- what a header's values are among all items
module _ {Y : Type 0} (f : Item → Option Y) (route : nones f (item headers.RecordRoute)) (met : nones f (item headers.Contact)) (timed : nones f (item headers.Expires)) (wanted : nones f (item headers.ReferSub)) where
  found : (a : AnswerText) (top : Hop) (others : List Hop)
      → filter_map f (items a top others) ≡ filter_map f (item headers.Via (marked_hop a top) ∷ []) ++ (filter_map f (map (item headers.Via) others) ++ (filter_map f (core a) ++ filter_map f (item headers.ContentLength (codes "0") ∷ [])))
  found a top others =
      let contacts : List Item = map (item headers.Contact) (listed (option_map contact_text a.contact)) in
      let times : List Item = map (item headers.Expires) (listed (option_map decimal a.expires)) in
      let size : List Item = item headers.ContentLength (codes "0") ∷ [] in
      let wishes : List Item = map (item headers.ReferSub) (listed (refer_sub_text a.without_subscription)) in
      let last : List Item = wishes ++ size in
      let w : filter_map f wishes ≡ [] = passed f (item headers.ReferSub) wanted (listed (refer_sub_text a.without_subscription)) in
      let routes : List Item = map (item headers.RecordRoute) a.record_routes in
      let r : filter_map f routes ≡ [] = passed f (item headers.RecordRoute) route a.record_routes in
      let c : filter_map f contacts ≡ [] = passed f (item headers.Contact) met (listed (option_map contact_text a.contact)) in
      let t : filter_map f times ≡ [] = passed f (item headers.Expires) timed (listed (option_map decimal a.expires)) in
      filter_map-append f (item headers.Via (marked_hop a top) ∷ []) (map (item headers.Via) others ++ (routes ++ (core a ++ (contacts ++ (times ++ last)))))
      ∙ ap (λ (l : List Y). filter_map f (item headers.Via (marked_hop a top) ∷ []) ++ l)
      (filter_map-append f (map (item headers.Via) others) (routes ++ (core a ++ (contacts ++ (times ++ last))))
      ∙ ap (λ (l : List Y). filter_map f (map (item headers.Via) others) ++ l)
      (filter_map-append f routes (core a ++ (contacts ++ (times ++ last))) ∙ ap (λ (l : List Y). l ++ filter_map f (core a ++ (contacts ++ (times ++ last)))) r
      ∙ filter_map-append f (core a) (contacts ++ (times ++ last))
      ∙ ap (λ (l : List Y). filter_map f (core a) ++ l)
      (filter_map-append f contacts (times ++ last) ∙ ap (λ (l : List Y). l ++ filter_map f (times ++ last)) c
      ∙ filter_map-append f times last ∙ ap (λ (l : List Y). l ++ filter_map f last) t
      ∙ filter_map-append f wishes size ∙ ap (λ (l : List Y). l ++ filter_map f size) w)))

  -- of a header other than Via
  alone : nones f (item headers.Via) → (a : AnswerText) (top : Hop) (others : List Hop) → filter_map f (items a top others) ≡ filter_map f (core a) ++ filter_map f (item headers.ContentLength (codes "0") ∷ [])
  alone hop a top others =
      found a top others
      ∙ ap (λ (l : List Y). l ++ (filter_map f (map (item headers.Via) others) ++ (filter_map f (core a) ++ filter_map f (item headers.ContentLength (codes "0") ∷ [])))) (passed f (item headers.Via) hop (marked_hop a top ∷ []))
      ∙ ap (λ (l : List Y). l ++ (filter_map f (core a) ++ filter_map f (item headers.ContentLength (codes "0") ∷ []))) (passed f (item headers.Via) hop others)

hops_are : (a : AnswerText) (top : Hop) (others : List Hop) → values_of headers.Via (items a top others) ≡ marked_hop a top ∷ others
hops_are a top others =
    found (value_in headers.Via) (λ x. refl) (λ x. refl) (λ x. refl) (λ x. refl) a top others
    ∙ ap (λ (l : List Hop). marked_hop a top ∷ (l ++ [])) (hops_found others) ∙ ap (λ (l : List Hop). marked_hop a top ∷ l) (append-nil others)

-- ---- the whole

sequence_is : (a : AnswerText) → a.head.cseq < 2 ^ 31 → IsWord class.Token a.head.cseq_method → IsSequence (decimal a.head.cseq ++ (codes " " ++ a.head.cseq_method)) (sequence a)
sequence_is a small w =
    let s = spelled a.head.cseq (omega (arith, small)) in
    record { digits = decimal a.head.cseq; gap = 32 ∷ []; are_digits = s.0; are_spaces = (refl, cons_some 32 []); method = w; number = sym s.1; small = small; whole = refl }

behind_laid : (a : AnswerText) (top : Hop) (others : List Hop) → IsAnswer a top others
    → Laid (dialog_lines a ++ options_then a size_line) (core a ++ (map (item headers.Contact) (listed (option_map contact_text a.contact)) ++ (map (item headers.Expires) (listed (option_map decimal a.expires)) ++ last_items a)))
unfolding options_then
behind_laid a top others h =
    let small : a.head.cseq < 2 ^ 64 = omega (arith, h.number) in
    let s = spelled a.head.cseq small in
    let method : AllPassing is_visible a.head.cseq_method = all_within (is_in class.Token) is_visible token_visible a.head.cseq_method h.method.0 in
    let cseq_field = spaced_field (decimal a.head.cseq) a.head.cseq_method (decimal_visible a.head.cseq small) s.0.1 method h.method.1 in
    let to_field = field_more a.head.to.text (parameter_text (codes "tag") (added_tag a.head.to.tag a.tag)) h.to.1 (tag_field a.head.to.tag a.tag h.tag) in
    let size : List Item = item headers.ContentLength (codes "0") ∷ [] in
    let last : List Item = last_items a in
    let from_refer_sub : List (List ℕ) = header_of (codes "Refer-Sub") (refer_sub_text a.without_subscription) ++ size_line in
    let from_unsupported : List (List ℕ) = header_of (codes "Unsupported") (option_map comma_joined a.unsupported) ++ from_refer_sub in
    let from_events : List (List ℕ) = header_of (codes "Allow-Events") (option_map comma_joined a.allow_events) ++ from_unsupported in
    let from_allow : List (List ℕ) = header_of (codes "Allow") (option_map comma_joined a.allow) ++ from_events in
    let from_least : List (List ℕ) = header_of (codes "Min-Expires") (option_map decimal a.min_expires) ++ from_allow in
    let from_expires : List (List ℕ) = header_of (codes "Expires") (option_map decimal a.expires) ++ from_least in
    let zero_line : IsPlain (header (codes "Content-Length") (codes "0")) (item headers.ContentLength (codes "0") ∷ []) =
    plain (codes "Content-Length") (codes "0") (item headers.ContentLength (codes "0") ∷ []) (literal_name 67 (codes "ontent-Length") refl) (visible_field (codes "0") refl) ((refl, cons_some 48 []), refl) in
    one (plain (codes "From") a.head.from.text (item headers.From a.head.from ∷ []) (literal_name 70 (codes "rom") refl) h.from.1 (a.head.from, h.from.0, refl))
    (one (plain (codes "To") _ (item headers.To (answer_to a) ∷ []) (literal_name 84 (codes "o") refl) to_field (answer_to a, to_is a.head.to.text a.head.to.tag a.tag (party_is a.head.to h.to.0) h.tag, refl))
    (one (plain (codes "Call-ID") a.head.call_id (item headers.CallId a.head.call_id ∷ []) (literal_name 67 (codes "all-ID") refl) (visible_field a.head.call_id h.call_id.0) (h.call_id, refl))
    (one (plain (codes "CSeq") _ (item headers.CSeq (sequence a) ∷ []) (literal_name 67 (codes "Seq") refl) cseq_field (sequence a, sequence_is a h.number h.method, refl))
    (contact_laid a.contact from_expires (map (item headers.Expires) (listed (option_map decimal a.expires)) ++ last) h.contact
    (expires_laid a.expires from_least last h.expires
    (least_laid a.min_expires from_allow last h.min_expires
    (allow_laid a.allow from_events last h.allow
    (events_laid a.allow_events from_unsupported last h.allow_events
    (unsupported_laid a.unsupported from_refer_sub last h.unsupported
    (refer_sub_laid a.without_subscription size_line size
    (one zero_line done)))))))))))

all_laid : (a : AnswerText) (top : Hop) (others : List Hop) → IsAnswer a top others → Laid (middle a top others) (items a top others)
unfolding middle
all_laid a top others h =
    let text : List ℕ = top_via_text a.source (via_of top) top.text in
    let again = top_again a.source top.text top h.source h.is_top.0 in
    let field = top_field a.source top.text top h.source h.is_top.0 h.is_top.1 (hop_starts text (marked_hop a top) again) in
    let lines : List (List ℕ) = dialog_lines a ++ options_then a size_line in
    let xs : List Item = core a ++ (map (item headers.Contact) (listed (option_map contact_text a.contact)) ++ (map (item headers.Expires) (listed (option_map decimal a.expires)) ++ last_items a)) in
    one (via_line text (marked_hop a top) again field)
    (vias_laid others (map (header (codes "Record-Route")) a.record_routes ++ lines) (map (item headers.RecordRoute) a.record_routes ++ xs) h.are_others
    (routes_laid a.record_routes lines xs h.record_routes (behind_laid a top others h)))

pub answer_again : AnswerIsReadAgain
answer_again a top others h small =
    let line : List ℕ = status_line a.status in
    let whole = answer_is a top others h in
    let fits : length (line ++ 13 ∷ 10 ∷ (on_wire (middle a top others) ++ 13 ∷ 10 ∷ [])) ≤ 65535 = omega (arith, ap length whole, small) in
    let head = plain_head line (status (code a.status) (phrase a.status)) (middle a top others) (items a top others) [] (status_bytes a.status) (status_line_is a.status) (laid_plain (all_laid a top others h)) fits in
    record {
      items = items a top others;
      rest = [];
      cut = subst (λ (t : List ℕ). HasHead t (status (code a.status) (phrase a.status)) (items a top others) []) (sym whole) head;
      head = record {
        top = marked_hop a top;
        others = others;
        hops = hops_are a top others;
        vias = refl;
        top_via = refl;
        from = alone (value_in headers.From) (λ x. refl) (λ x. refl) (λ x. refl) (λ x. refl) (λ x. refl) a top others;
        to = alone (value_in headers.To) (λ x. refl) (λ x. refl) (λ x. refl) (λ x. refl) (λ x. refl) a top others;
        call_id = alone (value_in headers.CallId) (λ x. refl) (λ x. refl) (λ x. refl) (λ x. refl) (λ x. refl) a top others;
        cseq = alone (value_in headers.CSeq) (λ x. refl) (λ x. refl) (λ x. refl) (λ x. refl) (λ x. refl) a top others;
      };
      body = [];
      is_body = subst (λ (ds : List (List ℕ)). IsBody ds [] []) (sym (alone (value_in headers.ContentLength) (λ x. refl) (λ x. refl) (λ x. refl) (λ x. refl) (λ x. refl) a top others)) (omega arith, refl);
    }
