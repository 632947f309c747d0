-- What is gathered from a list of values, header by header.
use Rattle.std.proofs.Common.{◌≡◌, ℕ, List, [], ◌∷◌, ◌++◌, Option, Some, None, refl, ◌∙◌, append_assoc, map}
use Rattle.std.proofs.lemmas.List.{append-nil}
use Rattle.sip_read.specs.declared.datagram.Header.TheVariants as headers
use Rattle.sip_read.specs.declared.message.Via.{Via}
use Rattle.sip_read.specs.declared.gathered.Once.{Once}
use Rattle.sip_read.specs.declared.gathered.Once.TheVariants as once
use Rattle.sip_read.specs.AddressesComputed.{contact_of}
use Rattle.sip_read.specs.FieldsComputed.{event_kept, expires_kept}
use Rattle.sip_read.specs.GatheredComputed.{Fields, Gathered, nothing, capped, accept_more, first_or, with_item, with_items}
use Rattle.sip_read.specs.Items.{Item, item, values_of}
use Rattle.sip_read.specs.Message.{with_commas}
use Rattle.sip_read.specs.OnceComputed.{once_all}
use Rattle.sip_read.specs.ValuesComputed.{refer_sub_of}
use Rattle.sip_read.specs.Vias.{Hop, via_of}

-- ---- what is gathered, header by header

abbrev accept_all : Option (List ℕ) → List (List ℕ) → Option (List ℕ)
accept_all o [] = o
accept_all o (v ∷ vs) = accept_all (accept_more o v) vs

abbrev first_all : Option Via → List Hop → Option Via
first_all o [] = o
first_all o (h ∷ hs) = first_all (first_or o (via_of h)) hs

abbrev pub texts : List Hop → List (List ℕ)
texts hs = map (λ h. h.text) hs

abbrev fields_with : Fields → List Item → Fields
fields_with f xs = record {
  event = once_all f.event (map event_kept (values_of headers.Event xs));
  expires = once_all f.expires (map expires_kept (values_of headers.Expires xs));
  accept = accept_all f.accept (values_of headers.Accept xs);
  contact = once_all f.contact (map contact_of (values_of headers.Contact xs));
  refer_to = once_all f.refer_to (map contact_of (values_of headers.ReferTo xs));
  refer_sub = once_all f.refer_sub (map refer_sub_of (values_of headers.ReferSub xs));
  require = f.require ++ values_of headers.Require xs;
  record_routes = f.record_routes ++ values_of headers.RecordRoute xs;
}

abbrev gathered_with : Gathered → List Item → Gathered
gathered_with g xs = record {
  vias = g.vias ++ texts (values_of headers.Via xs);
  top = first_all g.top (values_of headers.Via xs);
  from = once_all g.from (values_of headers.From xs);
  to = once_all g.to (values_of headers.To xs);
  call_id = once_all g.call_id (values_of headers.CallId xs);
  cseq = once_all g.cseq (values_of headers.CSeq xs);
  content_length = once_all g.content_length (map capped (values_of headers.ContentLength xs));
  fields = fields_with g.fields xs;
}

pub gathered_all : (g : Gathered) (xs : List Item) → with_items g xs ≡ gathered_with g xs
gathered_all g [] = rw (append-nil g.vias, append-nil g.fields.require, append-nil g.fields.record_routes) refl
gathered_all g ((item headers.Via h) ∷ xs) = gathered_all (with_item g (item headers.Via h)) xs ∙ rw (append_assoc g.vias (h.text ∷ []) (texts (values_of headers.Via xs))) refl
gathered_all g ((item headers.Require v) ∷ xs) = gathered_all (with_item g (item headers.Require v)) xs ∙ rw (append_assoc g.fields.require (v ∷ []) (values_of headers.Require xs)) refl
gathered_all g ((item headers.RecordRoute v) ∷ xs) =
    gathered_all (with_item g (item headers.RecordRoute v)) xs ∙ rw (append_assoc g.fields.record_routes (v ∷ []) (values_of headers.RecordRoute xs)) refl
gathered_all g (x ∷ xs) = gathered_all (with_item g x) xs

-- ---- values that may stand once

-- no value, one, or several
abbrev pub once_of : {T : Type 0} → List T → Once T
once_of [] = once.Absent
once_of (x ∷ []) = once.One x
once_of (x ∷ y ∷ ys) = once.Several

several_stays : {T : Type 0} (xs : List T) → once_all once.Several xs ≡ once.Several
several_stays [] = refl
several_stays (x ∷ xs) = several_stays xs

pub all_once : {T : Type 0} (xs : List T) → once_all once.Absent xs ≡ once_of xs
all_once [] = refl
all_once (x ∷ []) = refl
all_once (x ∷ y ∷ ys) = several_stays ys

first_stays : (v : Via) (hs : List Hop) → first_all (Some v) hs ≡ Some v
first_stays v [] = refl
first_stays v (h ∷ hs) = first_stays v hs

abbrev pub top_of : List Hop → Option Via
top_of [] = None
top_of (h ∷ hs) = Some (via_of h)

all_first : (hs : List Hop) → first_all None hs ≡ top_of hs
all_first [] = refl
all_first (h ∷ hs) = first_stays (via_of h) hs

abbrev pub accept_of_lines : List (List ℕ) → Option (List ℕ)
accept_of_lines [] = None
accept_of_lines (v ∷ vs) = Some (with_commas v vs)

accept_goes_on : (joined : List ℕ) (vs : List (List ℕ)) → accept_all (Some joined) vs ≡ Some (with_commas joined vs)
accept_goes_on joined [] = refl
accept_goes_on joined (v ∷ vs) = accept_goes_on (joined ++ 44 ∷ v) vs

all_accept : (vs : List (List ℕ)) → accept_all None vs ≡ accept_of_lines vs
all_accept [] = refl
all_accept (v ∷ vs) = accept_goes_on v vs

abbrev pub fields_of : List Item → Fields
fields_of xs = record {
  event = once_of (map event_kept (values_of headers.Event xs));
  expires = once_of (map expires_kept (values_of headers.Expires xs));
  accept = accept_of_lines (values_of headers.Accept xs);
  contact = once_of (map contact_of (values_of headers.Contact xs));
  refer_to = once_of (map contact_of (values_of headers.ReferTo xs));
  refer_sub = once_of (map refer_sub_of (values_of headers.ReferSub xs));
  require = values_of headers.Require xs;
  record_routes = values_of headers.RecordRoute xs;
}

abbrev pub gathered_of : List Item → Gathered
gathered_of xs = record {
  vias = texts (values_of headers.Via xs);
  top = top_of (values_of headers.Via xs);
  from = once_of (values_of headers.From xs);
  to = once_of (values_of headers.To xs);
  call_id = once_of (values_of headers.CallId xs);
  cseq = once_of (values_of headers.CSeq xs);
  content_length = once_of (map capped (values_of headers.ContentLength xs));
  fields = fields_of xs;
}

pub gathered_is : (xs : List Item) → with_items nothing xs ≡ gathered_of xs
gathered_is xs = gathered_all nothing xs ∙ rw (
  all_first (values_of headers.Via xs),
  all_once (values_of headers.From xs),
  all_once (values_of headers.To xs),
  all_once (values_of headers.CallId xs),
  all_once (values_of headers.CSeq xs),
  all_once (map capped (values_of headers.ContentLength xs)),
  all_once (map event_kept (values_of headers.Event xs)),
  all_once (map expires_kept (values_of headers.Expires xs)),
  all_accept (values_of headers.Accept xs),
  all_once (map contact_of (values_of headers.Contact xs)),
  all_once (map contact_of (values_of headers.ReferTo xs)),
  all_once (map refer_sub_of (values_of headers.ReferSub xs)),
) refl
