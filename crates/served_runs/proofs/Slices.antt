-- A payload as the contents of its files, and what is asked of it for a run of blocks.
use Rattle.std.proofs.Common.{◌≡◌, ℕ, zero, suc, ◌+◌, ◌-◌, ◌<◌, ◌≤◌, ◌^◌, Bool, List, [], ◌∷◌, ◌++◌, append_assoc, append-nil, length, length-drop, length-take, take, drop, get_or, map, Option, Some, None, refl, sym, ap, subst, ◌∙◌, arith}
use Rattle.std.proofs.Math.Seq.{drop-append_seam, take-append_seam}
use Rattle.std.proofs.lemmas.List.{drop-drop, take-append-drop}
use Rattle.std.proofs.lemmas.List.Elements.{All-cons, All-head, All-nil, All-tail}
use Rattle.std.proofs.lemmas.List.Sums.{sum_by-cons}
use Rattle.std.specs.List.{All, concat, slice_get}
use Rattle.std.specs.Option.{IsSomeAnd, option_map_or}
use Rattle.dl_kinds.specs.Plan.{block_end, block_start}
use Rattle.dl_kinds.specs.declared.runs.Run.{Run}
use Rattle.dl_kinds.specs.Lists.{part_at}
use Rattle.engine_turns.specs.NextRows.{IsJobOf, mirror_url}
use Rattle.link_source.specs.Mirrors.{Content}
use Rattle.machine_core.specs.OwnParts.{PayloadLengths}
use Rattle.machine_core.specs.Starts.{Subject, Listed, Unlisted}
use Rattle.memory_serving_laws.specs.Leads.{Leads}
use Rattle.memory_serving_laws.specs.Serving.{GivesAll, LeadsAmong, ServesPart, UrlLeadsAmong}
use Rattle.metainfo.specs.Jobs.{len_of_file, mirror_part}
use Rattle.metainfo.specs.Urls.{seed_url_of}
use Rattle.mirror_payloads.specs.Faithful.{run_bytes}
use Rattle.request_chain.specs.declared.course.TheConstants.{REDIRECT_LIMIT}
use Rattle.span_map.specs.Jobs.{run_end, run_start}
use Rattle.span_map.specs.Layout.{total_of}
use Rattle.span_map.specs.Slices.{Fills, IsPart, PartsHoldSlices, part_bytes, slice_of}
use Rattle.span_map.specs.declared.files.FileLen.{FileLen}
use Rattle.span_map.specs.declared.files.Part.{Part}
use Rattle.span_map.specs.declared.jobs.Job.{Job}
use Rattle.span_map.specs.declared.jobs.JobPart.{JobPart}
use Rattle.served_runs.specs.ServingLaws.{PartsAreGiven, PartsLeadAmong}
use Rattle.served_runs.specs.Serving.{IsFileOfChosen, file_bytes}
use Rattle.served_runs.proofs.Chosen.{files_chosen}

-- ---- the contents of files

more_files : (f : FileLen) (fs : List FileLen) → total_of (f ∷ fs) ≡ f.len + total_of fs
more_files f fs = sum_by-cons (λ (file : FileLen). file.len) f fs

contents_of : List FileLen → List ℕ → List (List ℕ)
contents_of [] payload = []
contents_of (f ∷ fs) payload = take f.len payload ∷ contents_of fs (drop f.len payload)

fills : (files : List FileLen) (payload : List ℕ) → total_of files ≤ length payload → Fills files (contents_of files payload)
unfolding contents_of
fills [] payload long = tt
fills (f ∷ fs) payload long =
    let more = more_files f fs in
    let front = length-take f.len payload in
    let behind = length-drop f.len payload in
    (omega (arith, long, more, front), fills fs (drop f.len payload) (omega (arith, long, more, behind)))

whole : (files : List FileLen) (payload : List ℕ) → length payload ≤ total_of files → concat (contents_of files payload) ≡ payload
unfolding contents_of
whole [] [] short = refl
whole [] (byte ∷ payload) short = absurd (omega (arith, short))
whole (f ∷ fs) payload short =
    let more = more_files f fs in
    let behind = length-drop f.len payload in
    ap (λ (l : List ℕ). take f.len payload ++ l) (whole fs (drop f.len payload) (omega (arith, short, more, behind)))
    ∙ take-append-drop f.len payload

content_at : (files : List FileLen) (payload : List ℕ) (n : ℕ) → get_or (contents_of files payload) n [] ≡ file_bytes files payload n
unfolding contents_of
content_at [] payload n = refl
content_at (f ∷ fs) payload zero = refl
content_at (f ∷ fs) payload (suc n) =
    let more = more_files f (take n fs) in
    content_at fs (drop f.len payload) n
    ∙ ap (take (len_of_file fs n)) (drop-drop (total_of (take n fs)) f.len payload)
    ∙ ap (λ k. part_at payload k (len_of_file fs n)) (sym more)

-- a file ends within the payload
file_within : (files : List FileLen) (n : ℕ) → total_of (take n files) + len_of_file files n ≤ total_of files
file_within [] zero = omega arith
file_within [] (suc n) = omega arith
file_within (f ∷ fs) zero = let more = more_files f fs in omega (arith, more)
file_within (f ∷ fs) (suc n) =
    let more = more_files f fs in
    let front = more_files f (take n fs) in
    let rest = file_within fs n in
    omega (arith, more, front, rest)

-- a part ends within its file
within_by : (found : Option FileLen) (end : ℕ) → IsSomeAnd found (λ (file : FileLen). end ≤ file.len)
    → end ≤ option_map_or (λ (file : FileLen). file.len) found 0
within_by None end is = absurd is
within_by (Some file) end is = is

part_within : (files : List FileLen) (part : Part) → IsPart files part → part.at + part.len ≤ len_of_file files part.file
part_within files part is = within_by (slice_get files part.file) (part.at + part.len) is.within

-- ---- parts of files

module _ (content : Content) (files : List FileLen) (base payload : List ℕ) (total : total_of files ≡ length payload)
    (small : length payload < 2 ^ 63) (IsAsked : ℕ → Type 0)
    (leads : (file : ℕ) → IsAsked file
    → Leads content REDIRECT_LIMIT (seed_url_of files base file) (file_bytes files payload file)) where
  file_long : (n : ℕ) → length (file_bytes files payload n) ≡ len_of_file files n
  file_long n =
      let within = file_within files n in
      let front = length-take (len_of_file files n) (drop (total_of (take n files)) payload) in
      let behind = length-drop (total_of (take n files)) payload in
      omega (arith, within, front, behind, total)

  serves_part : (part : Part) → IsAsked part.file
      → ServesPart content (mirror_part files base part)
      (part_at (get_or (contents_of files payload) part.file []) part.at part.len)
  serves_part part is = record {
    resource = file_bytes files payload part.file;
    leads = leads part.file is;
    size = file_long part.file;
    bytes_are = ap (λ (l : List ℕ). part_at l part.at part.len) (content_at files payload part.file);
  }

  gives_all : (parts : List Part) → All (λ (part : Part). IsAsked part.file) parts
      → GivesAll content (map (mirror_part files base) parts) (part_bytes (contents_of files payload) parts)
  gives_all [] all = refl
  gives_all (part ∷ parts) all = (
    part_at (get_or (contents_of files payload) part.file []) part.at part.len,
    part_bytes (contents_of files payload) parts,
    serves_part part (All-head (λ (p : Part). IsAsked p.file) part parts all),
    refl,
    gives_all parts (All-tail (λ (p : Part). IsAsked p.file) part parts all),
  )

  slice_given : PartsHoldSlices → (at len : ℕ) → All (λ (part : Part). IsAsked part.file) (slice_of files at len)
      → GivesAll content (map (mirror_part files base) (slice_of files at len)) (part_at payload at len)
  slice_given hold at len asked =
      subst (GivesAll content (map (mirror_part files base) (slice_of files at len)))
      (hold files (contents_of files payload) at len (fills files payload (omega (arith, total)))
      ∙ ap (λ (l : List ℕ). part_at l at len) (whole files payload (omega (arith, total))))
      (gives_all (slice_of files at len) asked)

  part_small : (part : Part) → len_of_file files part.file < 2 ^ 63
  part_small part = let within = file_within files part.file in omega (arith, within, total, small)

  all_small : (parts : List Part) → All (λ (part : JobPart). part.total < 2 ^ 63) (map (mirror_part files base) parts)
  all_small [] = All-nil (λ (part : JobPart). part.total < 2 ^ 63)
  all_small (part ∷ parts) =
      All-cons (λ (p : JobPart). p.total < 2 ^ 63) (mirror_part files base part) (map (mirror_part files base) parts)
      (part_small part) (all_small parts)

all_among : (content : Content) (among : ℕ → Bool) (files : List FileLen) (base : List ℕ) (IsAsked : ℕ → Type 0)
    → ((file : ℕ) → IsAsked file → UrlLeadsAmong content among (seed_url_of files base file))
    → (parts : List Part) → All (λ (part : Part). IsAsked part.file) parts
    → All (LeadsAmong content among) (map (mirror_part files base) parts)
all_among content among files base IsAsked leads [] all = All-nil (LeadsAmong content among)
all_among content among files base IsAsked leads (part ∷ parts) all =
    All-cons (LeadsAmong content among) (mirror_part files base part) (map (mirror_part files base) parts)
    (leads part.file (All-head (λ (p : Part). IsAsked p.file) part parts all))
    (all_among content among files base IsAsked leads parts (All-tail (λ (p : Part). IsAsked p.file) part parts all))

-- ---- the parts of a job

-- the bytes of a run by the lengths are those by the job's plan
bytes_by : (lengths : PayloadLengths) (subject : Subject) (mirror : ℕ) (run : Run) (job : Job) (payload : List ℕ)
    → IsJobOf lengths subject mirror run job
    → part_at payload (run_start job.plan run) (run_end job.plan run - run_start job.plan run)
    ≡ run_bytes lengths payload run
bytes_by lengths subject mirror run job payload is = λ i.
    part_at payload (block_start (is.piece_len i) run.first)
    (block_end (is.total i) (is.piece_len i) (run.first + run.count - 1) - block_start (is.piece_len i) run.first)

pub parts_are_given : PartsHoldSlices → PartsAreGiven
parts_are_given hold content (Listed meta uris) options mirror payload lengths run job serves long is =
    let files = meta.layout in
    let base = mirror_url (Listed meta uris) mirror in
    let total = serves.laid ∙ sym serves.total in
    let at = run_start job.plan run in
    let len = run_end job.plan run - run_start job.plan run in
    record {
      sound = is.of.sound.parts;
      bounded = subst (All (λ (part : JobPart). part.total < 2 ^ 63)) (sym is.of.parts)
          (all_small content files base payload total serves.small (IsFileOfChosen meta options) serves.leads (slice_of files at len));
      gives = subst (λ (parts : List JobPart). GivesAll content parts (run_bytes lengths payload run)) (sym is.of.parts)
          (subst (GivesAll content (map (mirror_part files base) (slice_of files at len)))
          (bytes_by lengths (Listed meta uris) mirror run job payload is.of)
          (slice_given content files base payload total serves.small (IsFileOfChosen meta options) serves.leads hold at len
          (files_chosen meta uris options mirror lengths run job is (part_within files))));
    }
parts_are_given hold content (Unlisted uris) options mirror payload lengths run job serves long is =
    let at = run_start job.plan run in
    let len = run_end job.plan run - run_start job.plan run in
    let total : length payload ≡ job.plan.total = sym long ∙ sym is.of.total in
    let small = serves.small in
    let one : JobPart = record { url = mirror_url (Unlisted uris) mirror; at = at; len = len; total = job.plan.total } in
    record {
      sound = is.of.sound.parts;
      bounded = subst (All (λ (part : JobPart). part.total < 2 ^ 63)) (sym is.of.parts)
          (All-cons (λ (part : JobPart). part.total < 2 ^ 63) one [] (omega (arith, total, small))
          (All-nil (λ (part : JobPart). part.total < 2 ^ 63)));
      gives = subst (λ (parts : List JobPart). GivesAll content parts (run_bytes lengths payload run)) (sym is.of.parts)
          (subst (GivesAll content (one ∷ [])) (bytes_by lengths (Unlisted uris) mirror run job payload is.of) (
            part_at payload at len,
            [],
            record { resource = payload; leads = serves.leads; size = total; bytes_are = refl },
            sym (append-nil (part_at payload at len)),
            refl,
          ));
    }

pub parts_lead_among : PartsLeadAmong
parts_lead_among content among (Listed meta uris) options mirror lengths run job leads is =
    let files = meta.layout in
    let base = mirror_url (Listed meta uris) mirror in
    let at = run_start job.plan run in
    let len = run_end job.plan run - run_start job.plan run in
    subst (All (LeadsAmong content among)) (sym is.of.parts)
    (all_among content among files base (IsFileOfChosen meta options) leads (slice_of files at len)
    (files_chosen meta uris options mirror lengths run job is (part_within files)))
parts_lead_among content among (Unlisted uris) options mirror lengths run job leads is =
    let at = run_start job.plan run in
    let len = run_end job.plan run - run_start job.plan run in
    let one : JobPart = record { url = mirror_url (Unlisted uris) mirror; at = at; len = len; total = job.plan.total } in
    subst (All (LeadsAmong content among)) (sym is.of.parts)
    (All-cons (LeadsAmong content among) one [] leads (All-nil (LeadsAmong content among)))

-- ---- parts of parts

-- what comes behind the first bytes of a part is the part behind them
pub cut_part : (payload handed bytes more : List ℕ) (at len : ℕ) → part_at payload at len ≡ handed ++ (bytes ++ more)
    → bytes ≡ part_at payload (at + length handed) (length bytes)
cut_part payload handed bytes more at len is =
    let rest = drop len (drop at payload) in
    let all : drop at payload ≡ handed ++ (bytes ++ (more ++ rest)) =
    sym (take-append-drop len (drop at payload)) ∙ (ap (λ (l : List ℕ). l ++ rest) is
    ∙ (append_assoc handed (bytes ++ more) rest ∙ ap (λ (l : List ℕ). handed ++ l) (append_assoc bytes more rest))) in
    let behind : drop (at + length handed) payload ≡ bytes ++ (more ++ rest) =
    sym (drop-drop (length handed) at payload) ∙ (ap (drop (length handed)) all ∙ drop-append_seam handed (bytes ++ (more ++ rest))) in
    sym (ap (take (length bytes)) behind ∙ take-append_seam bytes (more ++ rest))
