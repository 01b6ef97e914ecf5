-- How parts follow one another.
use Rattle.std.proofs.Common.{◌≡◌, ◌≢◌, ℕ, false, List, [], ◌∷◌, ◌++◌, Option, Some, None, refl, sym, ap, subst, ◌∙◌, inl, inr, append_assoc, append-nil}
use Rattle.std.proofs.lemmas.Bool.{cond-false}
use Rattle.std.specs.Prelude.{◌&&◌, codes}
use Rattle.std.specs.Str.{bytes_eq}
use Rattle.link_source.specs.Endpoint.{IsHttp}
use Rattle.link_source.specs.Exchanges.{Exchange}
use Rattle.span_map.specs.declared.jobs.JobPart.{JobPart}
use Rattle.reply_reader.specs.declared.loss.Loss.{Loss}
use Rattle.reply_reader.specs.declared.loss.Loss.TheVariants.{Link, NotFound, Refused, BadReply, Length, Short, Redirects, NoMemory}
use Rattle.request_chain.specs.Chains.{TellsLoss as RequestsTellLoss}
use Rattle.request_chain.specs.Fetched.{FetchedBy, Fetched as FetchedByRequests}
use Rattle.request_chain.specs.Plans.{FetchEnding, Done, Open, Lost, NextAsk, Ask, Over, plan_of, next_plan}
use Rattle.request_chain.proofs.Leading.{ends}
use Rattle.ftp_fetches.specs.Dialogues.{Dialogue, data_ending, dialogue_behind, FtpFetched, FtpFetchedBy}
use Rattle.ftp_fetches.specs.Dialogues as dialogues
use Rattle.ftp_steps.specs.declared.step.FtpStep.TheVariants.{Greeting}
use Rattle.ftp_places.specs.Places.{ftp_place, ftp_place_at, ftp_place_by, is_ftp_url, names_file}
use Rattle.ftp_places.specs.declared.place.FtpPlace.{FtpPlace}
use Rattle.part_fetches.specs.Fetched.{AreBrought, Fetched, FetchedAt, FetchedPart, LeadOn}
use Rattle.part_fetches.specs.Laws.{PartBegins, PartIsCut, PartLeavesMore}
use Rattle.part_fetches.specs.Losses.{TellsLoss}

-- where all came by the plan, streams more are left over
leaves_by : (used : List Exchange) (plan : NextAsk) (rest more : List Exchange) (bytes : List ℕ)
    → FetchedBy plan used bytes Done rest → FetchedBy plan (used ++ more) bytes Done (rest ++ more)
leaves_by used (Over Done) rest more bytes fetched = (fetched.0, fetched.1, ap (λ streams. streams ++ more) fetched.2)
leaves_by used (Over Open) rest more bytes fetched = absurd (let both : Done ≡ Open = fetched.1 in cc)
leaves_by used (Over (Lost loss)) rest more bytes fetched = absurd (let both : Done ≡ Lost loss = fetched.1 in cc)
leaves_by [] (Ask part parts url count status) rest more bytes fetched = elim fetched.1 [
  | inl usable ↦ absurd (let both : Done ≡ Open = usable.1 in cc)
  | inr unfit ↦ absurd (let both = unfit.1 in cc)
]
leaves_by (stream ∷ used) (Ask part parts url count status) rest more bytes (inl vain) =
    inl (vain.0, leaves_by used (Ask part parts url count status) rest more bytes vain.1)
leaves_by (stream ∷ used) (Ask part parts url count status) rest more bytes (inr fetched) =
    inr (fetched.0, fetched.1, fetched.2, fetched.3, leaves_by used (next_plan part parts url count fetched.0.turn) rest more fetched.1 fetched.4)

-- so by a dialogue
dialogue_leaves : (place : FtpPlace) (part : JobPart) (used : List Exchange) (next : Dialogue) (rest more : List Exchange) (bytes : List ℕ)
    → FtpFetchedBy place part next used bytes Done rest → FtpFetchedBy place part next (used ++ more) bytes Done (rest ++ more)
dialogue_leaves place part used (dialogues.Over Done) rest more bytes fetched =
    (fetched.0, fetched.1, ap (λ streams. streams ++ more) fetched.2)
dialogue_leaves place part used (dialogues.Over Open) rest more bytes fetched = absurd (let both : Done ≡ Open = fetched.1 in cc)
dialogue_leaves place part used (dialogues.Over (Lost loss)) rest more bytes fetched = absurd (let both : Done ≡ Lost loss = fetched.1 in cc)
dialogue_leaves place part [] (dialogues.At step port) rest more bytes fetched = absurd (let both : Done ≡ Open = fetched.1 in cc)
dialogue_leaves place part (stream ∷ used) (dialogues.At step port) rest more bytes fetched =
    (fetched.0, fetched.1, dialogue_leaves place part used (dialogue_behind part port fetched.0) rest more bytes fetched.2)
dialogue_leaves place part [] (dialogues.Data port) rest more bytes fetched = absurd (let both : Done ≡ Open = fetched.1 in cc)
dialogue_leaves place part (stream ∷ used) (dialogues.Data port) rest more bytes fetched =
    (fetched.0, fetched.1, dialogue_leaves place part used (dialogues.Over (data_ending part stream)) rest more [] fetched.2)

leaves_at : (place : Option FtpPlace) (part : JobPart) (used more : List Exchange) (bytes : List ℕ)
    → FetchedAt place part used bytes Done [] → FetchedAt place part (used ++ more) bytes Done more
leaves_at None part used more bytes fetched = leaves_by used (plan_of (part ∷ [])) [] more bytes fetched
leaves_at (Some place) part used more bytes fetched = dialogue_leaves place part used (dialogues.At Greeting 0) [] more bytes fetched

pub part_leaves_more : PartLeavesMore
unfolding FetchedPart
part_leaves_more = λ part used more bytes fetched. leaves_at (ftp_place part.url) part used more bytes fetched

-- the streams by which all came by the plan
cut_by : (streams : List Exchange) (plan : NextAsk) (rest : List Exchange) (bytes : List ℕ) → FetchedBy plan streams bytes Done rest
    → (used : List Exchange) × (streams ≡ used ++ rest) × FetchedBy plan used bytes Done []
cut_by streams (Over Done) rest bytes fetched = ([], sym fetched.2, (fetched.0, refl, refl))
cut_by streams (Over Open) rest bytes fetched = absurd (let both : Done ≡ Open = fetched.1 in cc)
cut_by streams (Over (Lost loss)) rest bytes fetched = absurd (let both : Done ≡ Lost loss = fetched.1 in cc)
cut_by [] (Ask part parts url count status) rest bytes fetched = elim fetched.1 [
  | inl usable ↦ absurd (let both : Done ≡ Open = usable.1 in cc)
  | inr unfit ↦ absurd (let both = unfit.1 in cc)
]
cut_by (stream ∷ streams) (Ask part parts url count status) rest bytes (inl vain) =
    let cut = cut_by streams (Ask part parts url count status) rest bytes vain.1 in
    (stream ∷ cut.0, ap (λ later. stream ∷ later) cut.1, inl (vain.0, cut.2))
cut_by (stream ∷ streams) (Ask part parts url count status) rest bytes (inr fetched) =
    let cut = cut_by streams (next_plan part parts url count fetched.0.turn) rest fetched.1 fetched.4 in
    (stream ∷ cut.0, ap (λ later. stream ∷ later) cut.1, inr (fetched.0, fetched.1, fetched.2, fetched.3, cut.2))

-- so by a dialogue
dialogue_cut : (place : FtpPlace) (part : JobPart) (streams : List Exchange) (next : Dialogue) (rest : List Exchange) (bytes : List ℕ)
    → FtpFetchedBy place part next streams bytes Done rest
    → (used : List Exchange) × (streams ≡ used ++ rest) × FtpFetchedBy place part next used bytes Done []
dialogue_cut place part streams (dialogues.Over Done) rest bytes fetched = ([], sym fetched.2, (fetched.0, refl, refl))
dialogue_cut place part streams (dialogues.Over Open) rest bytes fetched = absurd (let both : Done ≡ Open = fetched.1 in cc)
dialogue_cut place part streams (dialogues.Over (Lost loss)) rest bytes fetched = absurd (let both : Done ≡ Lost loss = fetched.1 in cc)
dialogue_cut place part [] (dialogues.At step port) rest bytes fetched = absurd (let both : Done ≡ Open = fetched.1 in cc)
dialogue_cut place part (stream ∷ streams) (dialogues.At step port) rest bytes fetched =
    let cut = dialogue_cut place part streams (dialogue_behind part port fetched.0) rest bytes fetched.2 in
    (stream ∷ cut.0, ap (λ later. stream ∷ later) cut.1, (fetched.0, fetched.1, cut.2))
dialogue_cut place part [] (dialogues.Data port) rest bytes fetched = absurd (let both : Done ≡ Open = fetched.1 in cc)
dialogue_cut place part (stream ∷ streams) (dialogues.Data port) rest bytes fetched =
    let cut = dialogue_cut place part streams (dialogues.Over (data_ending part stream)) rest [] fetched.2 in
    (stream ∷ cut.0, ap (λ later. stream ∷ later) cut.1, (fetched.0, fetched.1, cut.2))

cut_at : (place : Option FtpPlace) (part : JobPart) (streams rest : List Exchange) (bytes : List ℕ) → FetchedAt place part streams bytes Done rest
    → (used : List Exchange) × (streams ≡ used ++ rest) × FetchedAt place part used bytes Done []
cut_at None part streams rest bytes fetched = cut_by streams (plan_of (part ∷ [])) rest bytes fetched
cut_at (Some place) part streams rest bytes fetched = dialogue_cut place part streams (dialogues.At Greeting 0) rest bytes fetched

pub part_is_cut : PartIsCut
unfolding FetchedPart
part_is_cut = λ part streams rest bytes fetched. cut_at (ftp_place part.url) part streams rest bytes fetched

-- nothing asked is not all that came
unasked_open : (part : JobPart) (ending : FetchEnding) → FetchedBy (plan_of (part ∷ [])) [] [] ending [] → ending ≢ Done
unasked_open part ending fetched = λ done. elim fetched.1 [
  | inl usable ↦ (let both : Done ≡ Open = sym done ∙ usable.1 in cc)
  | inr unfit ↦ (let both = sym done ∙ unfit.1 in cc)
]

begins_at : (place : Option FtpPlace) (part : JobPart) → (ending : FetchEnding) × (ending ≢ Done) × FetchedAt place part [] [] ending []
begins_at None part = let end = ends (plan_of (part ∷ [])) in (end.0, unasked_open part end.0 end.1, end.1)
begins_at (Some place) part = (Open, λ done. cc, (refl, refl, refl))

pub part_begins : PartBegins
unfolding FetchedPart
part_begins = λ part. begins_at (ftp_place part.url) part

-- the parts, before anything was asked for
pub parts_begin : (parts : List JobPart) → (ending : FetchEnding) × Fetched parts [] [] ending []
parts_begin [] = (Done, (refl, refl, refl))
parts_begin (part ∷ parts) = let begun = part_begins part in (begun.0, inl (begun.2, begun.1))

pub parts_brought : (parts : List JobPart) → AreBrought parts [] [] []
parts_brought parts = let begun = parts_begin parts in record { ending = begun.0; fetched = begun.1 }

-- ---- from one part to the next

pub leads_none : (parts : List JobPart) → LeadOn parts [] [] parts
leads_none parts = λ streams rest more ending fetched. fetched

-- one part more came
pub leads_on : (all : List JobPart) (older newer : List Exchange) (front own : List ℕ) (part : JobPart) (parts : List JobPart)
    → LeadOn all older front (part ∷ parts) → FetchedPart part newer own Done [] → LeadOn all (older ++ newer) (front ++ own) parts
leads_on all older newer front own part parts leads came = λ streams rest more ending fetched.
    rw (append_assoc older newer streams, append_assoc front own more)
    (leads (newer ++ streams) rest (own ++ more) ending (inr (own, more, streams, part_leaves_more part newer streams own came, refl, fetched)))

-- what the streams tell where nothing is left of the parts
pub leads_whole : (all : List JobPart) (used : List Exchange) (bytes : List ℕ) → LeadOn all used bytes [] → Fetched all used bytes Done []
leads_whole all used bytes leads =
    let P : List Exchange → List ℕ → Type 0 = λ streams came. Fetched all streams came Done [] in
    let whole : P (used ++ []) (bytes ++ []) = leads [] [] [] Done (refl, refl, refl) in
    rw (append-nil, append-nil) at whole

-- where the next part isn't done
pub leads_part : (all : List JobPart) (older newer : List Exchange) (front own : List ℕ) (part : JobPart) (parts : List JobPart) (ending : FetchEnding)
    → LeadOn all older front (part ∷ parts) → FetchedPart part newer own ending [] → ending ≢ Done
    → Fetched all (older ++ newer) (front ++ own) ending []
leads_part all older newer front own part parts ending leads came undone = leads newer [] own ending (inl (came, undone))

-- what the streams of the next part tell, whatever it is
pub part_brought : (part : JobPart) (parts : List JobPart) (streams : List Exchange) (bytes : List ℕ) (ending : FetchEnding)
    → FetchedPart part streams bytes ending [] → (how : FetchEnding) × Fetched (part ∷ parts) streams bytes how []
part_brought part parts streams bytes Done came =
    let next = parts_begin parts in (next.0, inr (bytes, [], [], came, sym (append-nil bytes), next.1))
part_brought part parts streams bytes Open came = (Open, inl (came, λ done. cc))
part_brought part parts streams bytes (Lost loss) came = (Lost loss, inl (came, λ done. cc))

-- ---- by what a part is asked for

-- an `http` URL leads to no file on an FTP server
pub http_no_ftp : (text : List ℕ) → IsHttp text → ftp_place text ≡ None
http_no_ftp text http =
    let url = http.0 in
    let other : is_ftp_url url ≡ false = ap (λ (scheme : List ℕ). bytes_eq scheme (codes "ftp") && names_file url) http.2 in
    ap ftp_place_by http.1 ∙ cond-false (is_ftp_url url) (Some (ftp_place_at url)) None other

pub by_requests : (part : JobPart) (streams rest : List Exchange) (bytes : List ℕ) (ending : FetchEnding)
    → ftp_place part.url ≡ None → FetchedByRequests (part ∷ []) streams bytes ending rest → FetchedPart part streams bytes ending rest
unfolding FetchedPart
by_requests part streams rest bytes ending none fetched =
    subst (λ (at : Option FtpPlace). FetchedAt at part streams bytes ending rest) (sym none) fetched

pub by_dialogue : (place : FtpPlace) (part : JobPart) (streams rest : List Exchange) (bytes : List ℕ) (ending : FetchEnding)
    → ftp_place part.url ≡ Some place → FtpFetched place part streams bytes ending rest → FetchedPart part streams bytes ending rest
unfolding FetchedPart
by_dialogue place part streams rest bytes ending there fetched =
    subst (λ (at : Option FtpPlace). FetchedAt at part streams bytes ending rest) (sym there) fetched

-- .. and by what it came, where it is asked for so
pub came_by_requests : (part : JobPart) (streams rest : List Exchange) (bytes : List ℕ) (ending : FetchEnding)
    → ftp_place part.url ≡ None → FetchedPart part streams bytes ending rest → FetchedByRequests (part ∷ []) streams bytes ending rest
unfolding FetchedPart
came_by_requests part streams rest bytes ending none fetched =
    subst (λ (at : Option FtpPlace). FetchedAt at part streams bytes ending rest) none fetched

module _ (all : List JobPart) (older newer : List Exchange) (front own : List ℕ) (part : JobPart) (parts : List JobPart)
    (leads : LeadOn all older front (part ∷ parts)) (faults : ℕ) (none : ftp_place part.url ≡ None) where
  lost : (loss : Loss) → FetchedByRequests (part ∷ []) newer own (Lost loss) [] → Fetched all (older ++ newer) (front ++ own) (Lost loss) []
  lost loss fetched =
      leads_part all older newer front own part parts (Lost loss) leads (by_requests part newer [] own (Lost loss) none fetched) (λ done. cc)

  pub loss_by_requests : (loss : Loss) → RequestsTellLoss (part ∷ []) newer own faults loss → TellsLoss all (older ++ newer) (front ++ own) faults loss
  loss_by_requests (Link count) tells =
      (leads_part all older newer front own part parts Open leads (by_requests part newer [] own Open none tells.0) (λ done. cc), tells.1)
  loss_by_requests NoMemory tells = tt
  loss_by_requests NotFound tells = lost NotFound tells
  loss_by_requests (Refused status code) tells = lost (Refused status code) tells
  loss_by_requests BadReply tells = lost BadReply tells
  loss_by_requests (Length told want) tells = lost (Length told want) tells
  loss_by_requests (Short got) tells = lost (Short got) tells
  loss_by_requests Redirects tells = lost Redirects tells
