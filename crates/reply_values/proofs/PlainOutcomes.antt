-- No value that comes of a call has a float.
use Rattle.std.proofs.Common.{◌≡◌, ◌||◌, ℕ, List, [], ◌∷◌, ◌++◌, Bool, true, false, codes, map, Option, Some, None, option_map, refl, if◌then◌else◌}
use Rattle.std.specs.Cmp.Lexicographic.{slice_cmp}
use Rattle.std.specs.Ordering.{nat_cmp, match_ordering}
use Rattle.std.specs.declared.cmp.Ordering.{Ordering}
use Rattle.std.specs.declared.cmp.Ordering.TheVariants.{Less, Equal, Greater}
use Rattle.rpc_console.specs.declared.asking.Keys.{Keys}
use Rattle.rpc_envelope.specs.Turns.{IsPlain}
use Rattle.run_report.specs.declared.kinds.Reply.{Reply}
use Rattle.run_report.specs.declared.kinds.Reply.TheVariants as reply
use Rattle.run_report.specs.declared.views.FileView.{FileView}
use Rattle.run_report.specs.declared.views.StatusView.{StatusView}
use Rattle.run_report.specs.declared.views.UriView.{UriView}
use Rattle.serde_json.specs.Data.{Data, Members, no_members, member, put, string}
use Rattle.serde_json.specs.View.{items_of}
use Rattle.serde_json.specs.Written.{has_float, items_have_float, members_have_float}
use Rattle.reply_values.specs.Members.{NamedData, decimal_data, is_chosen, members_in_order, named_if, pick, put_all, truth_data}
use Rattle.reply_values.specs.Outcomes.{named_text, reply_outcome}
use Rattle.reply_values.specs.Views.{error_members, file_data, payload_members, files_data, length_members, speed_members, status_data, status_members, uri_data, uris_data}

neither : (a b : Bool) → a ≡ false → b ≡ false → a || b ≡ false
neither a b e f = rw (e, f) refl

first_plain : (a b : Bool) → a || b ≡ false → a ≡ false
first_plain true b e = e
first_plain false b e = refl

second_plain : (a b : Bool) → a || b ≡ false → b ≡ false
second_plain true b e = cc
second_plain false b e = e

-- ---- lists

mapped_plain : {A : Type 0} (f : A → Data) → ((a : A) → has_float (f a) ≡ false) → (all : List A)
    → items_have_float (items_of (map f all)) ≡ false
mapped_plain f each [] = refl
mapped_plain f each (a ∷ all) = neither _ _ (each a) (mapped_plain f each all)

uri_plain : (uri : UriView) → has_float (uri_data uri) ≡ false
uri_plain uri = refl

uris_plain : (uris : List UriView) → has_float (uris_data uris) ≡ false
uris_plain uris = mapped_plain uri_data uri_plain uris

truth_plain : (holds : Bool) (rest : Bool) → rest ≡ false → has_float (truth_data holds) || rest ≡ false
truth_plain true rest e = e
truth_plain false rest e = e

file_plain : (file : FileView) → has_float (file_data file) ≡ false
file_plain file =
    truth_plain file.selected _ (neither (has_float (uris_data file.uris)) false (uris_plain file.uris) refl)

files_plain : (files : List FileView) → has_float (files_data files) ≡ false
files_plain files = mapped_plain file_data file_plain files

-- ---- members

abbrev ArePlain : Members → Type 0
ArePlain members = members_have_float members ≡ false

pick_by : (chosen : Bool) (name : List ℕ) (d : Data) (others : Members) → has_float d ≡ false → ArePlain others
    → ArePlain (if chosen then member name d others else others)
pick_by true name d others e f = neither _ _ e f
pick_by false name d others e f = f

picked_plain : (keys : Keys) (members : Members) → ArePlain members → ArePlain (pick keys members)
picked_plain keys no_members e = refl
picked_plain keys (member name d others) e =
    pick_by (is_chosen keys name) name d (pick keys others) (first_plain _ _ e)
    (picked_plain keys others (second_plain (has_float d) _ e))

joined_plain : (front back : List NamedData) → ArePlain (members_in_order front) → ArePlain (members_in_order back)
    → ArePlain (members_in_order (front ++ back))
joined_plain [] back e f = f
joined_plain (named ∷ front) back e f =
    neither _ _ (first_plain _ _ e) (joined_plain front back (second_plain (has_float named.1) _ e) f)

text_if_plain : (name : List ℕ) (text : Option (List ℕ))
    → ArePlain (members_in_order (named_if name (option_map string text)))
text_if_plain name None = refl
text_if_plain name (Some text) = refl

number_if_plain : (name : List ℕ) (number : Option ℕ)
    → ArePlain (members_in_order (named_if name (option_map decimal_data number)))
number_if_plain name None = refl
number_if_plain name (Some number) = refl

errors_plain : (status : StatusView) → ArePlain (members_in_order (error_members status))
errors_plain status =
    joined_plain (named_if (codes "errorCode") (option_map decimal_data status.error_code))
    (named_if (codes "errorMessage") (option_map string status.error_message))
    (number_if_plain (codes "errorCode") status.error_code) (text_if_plain (codes "errorMessage") status.error_message)

payload_plain : (status : StatusView) → ArePlain (members_in_order (payload_members status))
payload_plain status =
    neither (has_float (files_data status.files)) _ (files_plain status.files)
    (text_if_plain (codes "infoHash") status.info_hash)

members_plain : (status : StatusView) → ArePlain (status_members status)
members_plain status =
    let from_files = payload_members status ++ length_members status in
    let from_errors = error_members status ++ from_files in
    joined_plain (named_if (codes "bitfield") (option_map string status.bitfield)) (speed_members status ++ from_errors)
    (text_if_plain (codes "bitfield") status.bitfield)
    (joined_plain (speed_members status) from_errors refl
    (joined_plain (error_members status) from_files (errors_plain status)
    (joined_plain (payload_members status) (length_members status) (payload_plain status) refl)))

status_plain : (keys : Keys) (status : StatusView) → has_float (status_data keys status) ≡ false
status_plain keys status = picked_plain keys (status_members status) (members_plain status)

-- ---- options

put_by : (order : Ordering) (name other : List ℕ) (d e : Data) (rest put_rest : Members)
    → has_float d ≡ false → has_float e ≡ false → ArePlain rest → ArePlain put_rest
    → ArePlain (match_ordering order (member name d (member other e rest)) (member other d rest)
    (member other e put_rest))
put_by Less name other d e rest put_rest p q r s = neither _ _ p (neither _ _ q r)
put_by Equal name other d e rest put_rest p q r s = neither _ _ p r
put_by Greater name other d e rest put_rest p q r s = neither _ _ q s

put_plain : (name : List ℕ) (d : Data) (members : Members) → has_float d ≡ false → ArePlain members
    → ArePlain (put name d members)
put_plain name d no_members p q = neither _ _ p refl
put_plain name d (member other e rest) p q =
    let plain_rest = second_plain (has_float e) _ q in
    put_by (slice_cmp nat_cmp name other) name other d e rest (put name d rest) p (first_plain _ _ q) plain_rest
    (put_plain name d rest p plain_rest)

options_plain : (pairs : List (List ℕ × List ℕ)) (given : Members) → ArePlain given
    → ArePlain (put_all (map named_text pairs) given)
options_plain [] given e = e
options_plain (pair ∷ pairs) given e =
    options_plain pairs (put pair.0 (string pair.1) given) (put_plain pair.0 (string pair.1) given refl e)

-- ---- replies

pub reply_plain : (answer : Reply) (keys : Keys) → IsPlain (reply_outcome answer keys)
reply_plain (reply.Gid gid) keys = refl
reply_plain reply.Fine keys = refl
reply_plain (reply.Status status) keys = status_plain keys status
reply_plain (reply.Statuses statuses) keys = mapped_plain (status_data keys) (status_plain keys) statuses
reply_plain (reply.Files files) keys = files_plain files
reply_plain (reply.Uris uris) keys = uris_plain uris
reply_plain (reply.Options pairs) keys = options_plain pairs no_members refl
reply_plain (reply.Position place) keys = refl
reply_plain (reply.Stat stat) keys = refl
reply_plain reply.Version keys = refl
reply_plain (reply.Refused refused) keys = tt
