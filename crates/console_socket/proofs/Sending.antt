-- What becomes of a socket as texts are sent, and as messages are heard.
use Rattle.std.proofs.Common.{◌≡◌, ◌⊎◌, ⊎_elim, inl, refl, sym, ap, subst, ◌∙◌, ℕ, Bool, false, List, [], ◌∷◌, ◌++◌, append_assoc, append-nil, true≢false, Option, Ok, Err}
use Rattle.std.specs.Prelude.{IsTrue}
use Rattle.std.specs.List.{flat_map}
use Rattle.std.specs.Io.KnownBytes.{Consumes}
use Rattle.tungstenite.specs.Failure.{IsIo}
use Rattle.tungstenite.specs.Socket.{Flushed, Socket, Writes, content_of}
use Rattle.tungstenite.specs.declared.error.Error.{Error}
use Rattle.tungstenite.specs.declared.error.Error.TheVariants as Mine
use Rattle.tungstenite.specs.declared.message.Message.{Message}
use Rattle.websocket.specs.Connection.{Connection, check_can_write, send, whole_header, write_step}
use Rattle.websocket.specs.Content.{text as TextContent}
use Rattle.websocket.specs.Frame.{Checked, after_check, encode_frame}
use Rattle.websocket.specs.View.{Leaves}
use Rattle.websocket.specs.declared.error.Error.{Error as FrameError}
use Rattle.websocket.specs.declared.protocol.config.Role.TheVariants.{Server}
use Rattle.websocket.specs.declared.protocol.frame.coding.Data.TheVariants.{Text as TextData}
use Rattle.websocket.specs.declared.protocol.frame.coding.OpCode.TheVariants.{Data}
use Rattle.console_socket.proofs.Frames.{frames_more, have_all, have_both, have_none, have_reply}
use Rattle.console_socket.proofs.Serving.{nil_front, nothing_waits, reply_waits, stays_through, unmasked}
use Rattle.console_socket.specs.Frames.{EndsControl, HaveFrames, text_frame}
use Rattle.console_socket.specs.Hearing.{HasRead, HearsOn, ReadsBehind, ReadsMessage, came_by_error, heard_at_end, heard_by, heard_going, is_failing}
use Rattle.console_socket.specs.Sending.{WeavesTexts, RestsAsServer, SaysTexts, SendsFrames, ServesTexts}
use Rattle.console_socket.specs.Streams.{ReadsOn, WritesOn}
use Rattle.console_socket.specs.declared.hearing.Came.{Came}
use Rattle.console_socket.specs.declared.hearing.Came.TheVariants.{Text, Other, Quiet, Closed, Broken, Starved}
use Rattle.console_socket.specs.declared.stream.Trouble.{Trouble}
use Rattle.console_socket.specs.declared.stream.Trouble.TheVariants.{Nothing, Quiet as QuietStream, Ended, Failed, Starved as StarvedStream}

-- ---- one behind another

module _ {X : Type 0} (good : X → List ℕ) where
  -- one more text is sent behind these
  pub sends_more : (texts : List (List ℕ)) (text : List ℕ) (a b c : Socket X) → SendsFrames good texts a b → SendsFrames good (text ∷ []) b c
      → SendsFrames good (texts ++ text ∷ []) a c
  sends_more texts text a b c one other =
      other ∙ ap (λ xs. xs ++ flat_map text_frame (text ∷ [])) one
      ∙ append_assoc (good a.stream) (flat_map text_frame texts) (flat_map text_frame (text ∷ []))
      ∙ ap (λ xs. good a.stream ++ xs) (sym (frames_more texts text))

  pub sent_all : (texts : List (List ℕ)) (a b : Socket X) → SendsFrames good texts a b → WeavesTexts good texts a b
  sent_all texts a b sends = record { more = flat_map text_frame texts; grew = sends; frames = have_all texts }

  pub sent_both : (texts others : List (List ℕ)) (a b c : Socket X) → WeavesTexts good texts a b → WeavesTexts good others b c
      → WeavesTexts good (texts ++ others) a c
  sent_both texts others a b c one other = record {
    more = one.more ++ other.more;
    grew = other.grew ∙ ap (λ xs. xs ++ other.more) one.grew ∙ append_assoc (good a.stream) one.more other.more;
    frames = have_both texts others one.more other.more one.frames other.frames;
  }

pub sends_none : {X : Type 0} (tells : Bool) (good : X → List ℕ) (a : Socket X) → RestsAsServer a → SaysTexts tells good [] a a
sends_none {X} tells good a rests = record { rests = rests; sent = λ _. sym (append-nil (good a.stream)) }

pub sends_on : {X : Type 0} (tells : Bool) (good : X → List ℕ) (texts : List (List ℕ)) (text : List ℕ) (a b c : Socket X)
    → SaysTexts tells good texts a b → SaysTexts tells good (text ∷ []) b c → SaysTexts tells good (texts ++ text ∷ []) a c
sends_on {X} tells good texts text a b c one other =
    record { rests = other.rests; sent = λ e. sends_more good texts text a b c (one.sent e) (other.sent e) }

-- ---- a text is sent

leaves_frame : (check : Checked FrameError) (conn conn' : Connection) (bytes old new : List ℕ) → conn.role ≡ Server
    → Leaves (after_check check (send conn (Data TextData) bytes)) conn' old new
    → (conn'.role ≡ Server) × (new ≡ old ++ text_frame bytes)
leaves_frame (Err error) conn conn' bytes old new is leaves = absurd leaves
leaves_frame (Ok x) conn conn' bytes old new is leaves =
    let role : conn'.role ≡ Server = ap (λ c. c.role) leaves.0 ∙ is in
    (role, leaves.1.2 ∙ ap (λ mask. old ++ encode_frame (whole_header (Data TextData) mask) bytes) (unmasked conn'.role leaves.1.0 role leaves.1.1))

module _ {X : Type 0} (tells : Bool) (left good : X → List ℕ) (remaining contents : X → Option (List ℕ))
    (reads : ReadsOn tells remaining left good) (writes : WritesOn tells contents left good) where
  pub puts : (bytes : List ℕ) (a b : Socket X) → RestsAsServer a → Writes contents a b (write_step a.conn (TextContent bytes)) → b.output ≡ []
      → SaysTexts tells good (bytes ∷ []) a b
  puts bytes a b rests wrote empty =
      let frame = leaves_frame (check_can_write a.conn.state) a.conn b.conn bytes a.output (wrote.0 ++ b.output) rests.role wrote.1 in
      let whole : wrote.0 ≡ flat_map text_frame (bytes ∷ []) =
      sym (append-nil wrote.0) ∙ ap (λ xs. wrote.0 ++ xs) (sym empty) ∙ frame.1 ∙ ap (λ xs. xs ++ text_frame bytes) rests.nothing_waits
      ∙ sym (append-nil (text_frame bytes)) in
      record {
        rests = record { role = frame.0; nothing_waits = empty };
        sent = λ e. (writes a.stream b.stream wrote.0 e wrote.2).1 ∙ ap (λ xs. good a.stream ++ xs) whole;
      }

  -- ---- a message is heard

  -- what was flushed was nothing, or the end of a reply
  flushes : (a b : Socket X) → (flushed : Flushed contents a b) → HaveFrames [] flushed.0 → IsTrue tells → WeavesTexts good [] a b
  flushes a b flushed frames e = record { more = flushed.0; grew = (writes a.stream b.stream flushed.0 e flushed.2).1; frames = frames }

  flushes_none : (a b : Socket X) → a.output ≡ [] → (flushed : Flushed contents a b) → HaveFrames [] flushed.0
  flushes_none a b none flushed = have_reply flushed.0 (inl (nil_front flushed.0 b.output (sym flushed.1 ∙ none)))

  reads_on : (a b : Socket X) (got : List ℕ) → Consumes (remaining a.stream) (remaining b.stream) got → IsTrue tells → WeavesTexts good [] a b
  reads_on a b got consumes e = record {
    more = [];
    grew = (reads a.stream b.stream got e consumes).1 ∙ sym (append-nil (good a.stream));
    frames = have_none;
  }

  -- a message was read: the stream is known, and only a reply waits
  record ReadOn (a b : Socket X) : Type 0 where
    role : b.conn.role ≡ Server
    waits : (b.output ≡ []) ⊎ EndsControl b.output
    sent : IsTrue tells → WeavesTexts good [] a b

  reads_ok : (message : Message) (a b : Socket X) → RestsAsServer a → ReadsBehind remaining contents (Ok message) a b → ReadOn a b
  reads_ok message a b rests read =
      let m = read.middle in
      let r = read.reads in
      let role : m.conn.role ≡ Server = ap (λ c. c.role) read.flushed.3 ∙ rests.role in
      record {
        role = ap (λ c. c.role) r.6.1 ∙ stays_through r.0 m.conn (m.input ++ r.1) r.2 r.3 r.5 ∙ role;
        waits = reply_waits r.0 m.conn (m.input ++ r.1) r.2 r.3 (content_of message) m.output r.4 b.output r.5 r.6.0 role read.empty r.6.3;
        sent = λ e. sent_both good [] [] a m b (flushes a m read.flushed (flushes_none a m rests.nothing_waits read.flushed) e)
            (reads_on m b r.1 (r.6.4 read.empty) e);
      }

  serves_io : (error : Error) (a b : Socket X) → RestsAsServer a → IsIo error → ReadsBehind remaining contents (Err error) a b
      → ServesTexts tells good [] a b
  serves_io error a b rests io read =
      let m = read.middle in
      let r = read.reads in
      let kept = r.6.2 io in
      record {
        rests = record {
          role = ap (λ c. c.role) kept.0 ∙ stays_through r.0 m.conn (m.input ++ r.1) r.2 r.3 r.5 ∙ ap (λ c. c.role) read.flushed.3 ∙ rests.role;
          nothing_waits = nothing_waits r.0 m.conn (m.input ++ r.1) r.2 r.3 m.output r.4 b.output r.5 r.6.0 read.empty kept.2;
        };
        sent = λ e. sent_both good [] [] a m b (flushes a m read.flushed (flushes_none a m rests.nothing_waits read.flushed) e)
            (reads_on m b r.1 (r.6.4 io read.empty) e);
      }

  serves_message : (came : Came) (a b : Socket X) → RestsAsServer a → ReadsMessage remaining contents came a b → ServesTexts tells good [] a b
  serves_message came a b rests read =
      let m = read.middle in
      let first = reads_ok read.message a m rests read.reads in
      let flushed : read.replies.0 ≡ m.output =
      sym (append-nil read.replies.0) ∙ ap (λ xs. read.replies.0 ++ xs) (sym read.empty) ∙ sym read.replies.1 in
      record {
        rests = record { role = ap (λ c. c.role) read.replies.3 ∙ first.role; nothing_waits = read.empty };
        sent = λ e. sent_both good [] [] a m b (first.sent e)
            (flushes m b read.replies (subst (HaveFrames []) (sym flushed) (have_reply m.output first.waits)) e);
      }

  quiet_io : (error : Error) → Quiet ≡ came_by_error error → IsIo error
  quiet_io (Mine.Io cause) is = tt
  quiet_io Mine.ConnectionClosed is = absurd (cc is)
  quiet_io Mine.AlreadyClosed is = absurd (cc is)
  quiet_io (Mine.Capacity cause) is = absurd (cc is)
  quiet_io (Mine.Protocol cause) is = absurd (cc is)
  quiet_io Mine.WriteBufferFull is = absurd (cc is)
  quiet_io Mine.Utf8 is = absurd (cc is)
  quiet_io Mine.AttackAttempt is = absurd (cc is)
  quiet_io (Mine.Handshake cause) is = absurd (cc is)
  quiet_io Mine.HandshakeIncomplete is = absurd (cc is)
  quiet_io Mine.JunkAfterRequest is = absurd (cc is)
  quiet_io Mine.CustomResponseSuccessful is = absurd (cc is)
  quiet_io Mine.Url is = absurd (cc is)
  quiet_io (Mine.Http response) is = absurd (cc is)
  quiet_io (Mine.Refused response) is = absurd (cc is)
  quiet_io Mine.OutOfMemory is = absurd (cc is)

  -- an error is no message
  abbrev IsLost : Came → Type 0
  IsLost (Text text) = ⊥
  IsLost Other = ⊥
  IsLost Quiet = Unit {0}
  IsLost Closed = ⊥
  IsLost Broken = Unit {0}
  IsLost Starved = Unit {0}

  lost_by : (error : Error) → IsLost (came_by_error error)
  lost_by (Mine.Io cause) = tt
  lost_by Mine.ConnectionClosed = tt
  lost_by Mine.AlreadyClosed = tt
  lost_by (Mine.Capacity cause) = tt
  lost_by (Mine.Protocol cause) = tt
  lost_by Mine.WriteBufferFull = tt
  lost_by Mine.Utf8 = tt
  lost_by Mine.AttackAttempt = tt
  lost_by (Mine.Handshake cause) = tt
  lost_by Mine.HandshakeIncomplete = tt
  lost_by Mine.JunkAfterRequest = tt
  lost_by Mine.CustomResponseSuccessful = tt
  lost_by Mine.Url = tt
  lost_by (Mine.Http response) = tt
  lost_by (Mine.Refused response) = tt
  lost_by Mine.OutOfMemory = tt

  -- the stream is still known
  serves_known : (came : Came) (a b : Socket X) → RestsAsServer a → HasRead remaining contents came a b → (IsLost came → came ≡ Quiet)
      → ServesTexts tells good [] a b
  serves_known came a b rests read known =
      ⊎_elim
      (λ one. serves_message came a b rests one)
      (λ other. ⊎_elim
      (λ error.
      let quiet : came ≡ Quiet = known (subst IsLost (sym error.came_is) (lost_by error.error)) in
      serves_io error.error a b rests (quiet_io error.error (sym quiet ∙ error.came_is)) error.reads)
      (λ starved. absurd (cc (starved, known (subst IsLost (sym starved) tt))))
      other)
      read

  hears_going : (came : Came) (trouble : Trouble) (a b : Socket X) → RestsAsServer a → is_failing trouble ≡ false
      → HasRead remaining contents came a b → HearsOn tells good (heard_going came) trouble a b
  hears_going (Text text) trouble a b rests sound read = serves_known (Text text) a b rests read (λ lost. absurd lost)
  hears_going Other trouble a b rests sound read = serves_known Other a b rests read (λ lost. absurd lost)
  hears_going Quiet trouble a b rests sound read = serves_known Quiet a b rests read (λ _. refl)
  hears_going Closed trouble a b rests sound read = λ _. (sound, (serves_known Closed a b rests read (λ lost. absurd lost)).sent)
  hears_going Broken trouble a b rests sound read = λ all. absurd (true≢false (sym all))
  hears_going Starved trouble a b rests sound read = λ all. absurd (true≢false (sym all))

  hears_at_end : (came : Came) (trouble : Trouble) (a b : Socket X) → RestsAsServer a → is_failing trouble ≡ false
      → HasRead remaining contents came a b → HearsOn tells good (heard_at_end came) trouble a b
  hears_at_end (Text text) trouble a b rests sound read = λ _. (sound, (serves_known (Text text) a b rests read (λ lost. absurd lost)).sent)
  hears_at_end Other trouble a b rests sound read = λ _. (sound, (serves_known Other a b rests read (λ lost. absurd lost)).sent)
  hears_at_end Quiet trouble a b rests sound read = λ _. (sound, (serves_known Quiet a b rests read (λ _. refl)).sent)
  hears_at_end Closed trouble a b rests sound read = λ _. (sound, (serves_known Closed a b rests read (λ lost. absurd lost)).sent)
  hears_at_end Broken trouble a b rests sound read = λ all. absurd (true≢false (sym all))
  hears_at_end Starved trouble a b rests sound read = λ all. absurd (true≢false (sym all))

  pub hears_on : (trouble : Trouble) (came : Came) (a b : Socket X) → RestsAsServer a → HasRead remaining contents came a b
      → HearsOn tells good (heard_by trouble came) trouble a b
  hears_on Nothing came a b rests read = hears_going came Nothing a b rests refl read
  hears_on QuietStream came a b rests read = hears_going came QuietStream a b rests refl read
  hears_on Ended came a b rests read = hears_at_end came Ended a b rests refl read
  hears_on Failed came a b rests read = λ all. absurd (true≢false (sym all))
  hears_on StarvedStream came a b rests read = λ all. absurd (true≢false (sym all))
