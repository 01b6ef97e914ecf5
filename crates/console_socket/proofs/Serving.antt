-- A connection keeps its side, whatever is read, and answers by control frames.
use Rattle.std.proofs.Common.{◌≡◌, ◌⊎◌, ⊎_elim, inl, inr, subst, true≢false, refl, sym, ap, ◌∙◌, ℕ, Bool, true, false, cond, not, nat_lt, length, List, [], ◌∷◌, ◌++◌, drop, Option, None, Some, Ok, Err, Result, codes}
use Rattle.websocket.proofs.StreamLemmas.{TookFrame_from_read}
use Rattle.websocket.specs.Content.{Content}
use Rattle.websocket.specs.Connection.{Connection, Effect, IsMaskOf, Outgoing, Sends, is_server, whole_header, can_write, has_allowed_code, on_frame, on_opcode, on_control, on_short_control, on_close, close_effect, on_data, on_data_after, on_message_bytes, deliver, read_step, decode_close, check_so_far, complete_message}
use Rattle.websocket.specs.Frame.{after_check, Checked, encode_frame}
use Rattle.websocket.specs.declared.error.Error.{Error}
use Rattle.websocket.specs.declared.error.Error.TheVariants.{Protocol}
use Rattle.websocket.specs.declared.error.ProtocolError.TheVariants.{FragmentedControlFrame, ControlFrameTooBig}
use Rattle.websocket.specs.declared.protocol.config.Role.{Role}
use Rattle.websocket.specs.declared.protocol.config.Role.TheVariants.{Server}
use Rattle.websocket.specs.declared.protocol.frame.codec.FrameStatus.TheVariants.{Complete}
use Rattle.websocket.specs.declared.protocol.frame.coding.CloseCode.{CloseCode}
use Rattle.websocket.specs.declared.protocol.frame.coding.CloseCode.TheVariants as Code
use Rattle.websocket.specs.declared.protocol.frame.coding.Control.{Control}
use Rattle.websocket.specs.declared.protocol.frame.coding.Control.TheVariants.{Close, Ping, Pong}
use Rattle.websocket.specs.declared.protocol.frame.coding.Data.{Data}
use Rattle.websocket.specs.declared.protocol.frame.coding.Data.TheVariants.{Continue, Text, Binary}
use Rattle.websocket.specs.declared.protocol.frame.coding.OpCode.{OpCode}
use Rattle.websocket.specs.declared.protocol.frame.coding.OpCode.TheVariants as Op
use Rattle.websocket.specs.declared.protocol.incomplete.MessageType.{MessageType}
use Rattle.websocket.specs.declared.protocol.state.WebSocketState.{WebSocketState}
use Rattle.websocket.specs.declared.protocol.state.WebSocketState.TheVariants.{ClosedByPeer, CloseAcknowledged}
use Rattle.tungstenite.proofs.QuietLemmas.{quiet-frame, quiet-run}
use Rattle.tungstenite.proofs.SocketLemmas.{replies-none}
use Rattle.tungstenite.specs.Socket.{EndsWith, Quiet, Replies, Run, Runs}
use Rattle.console_socket.specs.Frames.{EndsControl, control_frame}

-- only control frames are replies
abbrev IsControlReply : Option Outgoing → Type 0
IsControlReply None = Unit {0}
IsControlReply (Some out) = (control : Control) × (out.opcode ≡ Op.Control control)

abbrev Stays : Role → Result Effect Error → Type 0
Stays role (Err error) = Unit {0}
Stays role (Ok effect) = (effect.next.role ≡ role) × IsControlReply effect.reply

stays_check : (role : Role) (check : Checked Error) (r : Result Effect Error) → Stays role r → Stays role (after_check check r)
stays_check role (Ok x) r stays = stays
stays_check role (Err error) r stays = tt

stays_cond : (role : Role) (test : Bool) (a b : Result Effect Error) → Stays role a → Stays role b → Stays role (cond test a b)
stays_cond role true a b one other = one
stays_cond role false a b one other = other

stays_either : (role : Role) (test : Bool) (a b : Effect) → Stays role (Ok a) → Stays role (Ok b) → Stays role (Ok (cond test a b))
stays_either role true a b one other = one
stays_either role false a b one other = other

stays_closing : (c : Connection) (frame : Option (CloseCode × List ℕ)) (payload : Option (List ℕ)) (state : WebSocketState)
    → Stays c.role (Ok (close_effect c frame payload state))
stays_closing c frame None state = (refl, tt)
stays_closing c frame (Some payload) state = (refl, (Close, refl))

stays_close : (c : Connection) (payload : List ℕ) (r : Result (Option (CloseCode × List ℕ)) Error) → Stays c.role (on_close c payload r)
stays_close c payload (Err error) = tt
stays_close c payload (Ok frame) =
    let first = close_effect c frame None CloseAcknowledged in
    let second = close_effect c frame (Some payload) ClosedByPeer in
    let third = close_effect c (Some (Code.Protocol, [])) (Some (3 ∷ 234 ∷ codes "Protocol violation")) ClosedByPeer in
    stays_either c.role (not (can_write c.state)) first (cond (has_allowed_code frame) second third) (stays_closing c frame None CloseAcknowledged)
    (stays_either c.role (has_allowed_code frame) second third (stays_closing c frame (Some payload) ClosedByPeer)
    (stays_closing c (Some (Code.Protocol, [])) (Some (3 ∷ 234 ∷ codes "Protocol violation")) ClosedByPeer))

replies_if : (can : Bool) (payload : List ℕ) → IsControlReply (cond can (Some (record { opcode = Op.Control Pong; payload = payload })) None)
replies_if true payload = (Pong, refl)
replies_if false payload = tt

stays_short : (c : Connection) (control : Control) (payload : List ℕ) → Stays c.role (on_short_control c control payload)
stays_short c Close payload = stays_close c payload (decode_close payload)
stays_short c Pong payload = (refl, tt)
stays_short c Ping payload = (refl, replies_if (can_write c.state) payload)

stays_control : (c : Connection) (control : Control) (final : Bool) (payload : List ℕ) → Stays c.role (on_control c control final payload)
unfolding on_control
stays_control c control final payload =
    let long = cond (nat_lt 125 (length payload)) (Err (Protocol ControlFrameTooBig)) (on_short_control c control payload) in
    stays_cond c.role (not final) (Err (Protocol FragmentedControlFrame)) long tt
    (stays_cond c.role (nat_lt 125 (length payload)) (Err (Protocol ControlFrameTooBig)) (on_short_control c control payload) tt
    (stays_short c control payload))

stays_deliver : (c : Connection) (r : Result Content Error) → Stays c.role (deliver c r)
stays_deliver c (Err error) = tt
stays_deliver c (Ok content) = (refl, tt)

stays_bytes : (c : Connection) (kind : MessageType) (final : Bool) (bytes : List ℕ) → Stays c.role (on_message_bytes c kind final bytes)
unfolding on_message_bytes
stays_bytes c kind final bytes =
    stays_check c.role _ _ (stays_cond c.role final _ _ (stays_deliver c (complete_message kind bytes)) (stays_check c.role (check_so_far kind bytes) _ (refl, tt)))

stays_data_after : (c : Connection) (fragments : Option (MessageType × List ℕ)) (kind : Data) (final : Bool) (payload : List ℕ)
    → Stays c.role (on_data_after c fragments kind final payload)
stays_data_after c None Continue final payload = tt
stays_data_after c None Text final payload = stays_bytes c _ final payload
stays_data_after c None Binary final payload = stays_bytes c _ final payload
stays_data_after c (Some p) Continue final payload = stays_bytes c p.0 final (p.1 ++ payload)
stays_data_after c (Some p) Text final payload = tt
stays_data_after c (Some p) Binary final payload = tt

stays_opcode : (c : Connection) (op : OpCode) (final : Bool) (payload : List ℕ) → Stays c.role (on_opcode c op final payload)
unfolding on_data
stays_opcode c (Op.Control control) final payload = stays_control c control final payload
stays_opcode c (Op.Data kind) final payload = stays_data_after c c.fragments kind final payload

stays_in : (role : Role) (r : Result Effect Error) (effect : Effect) → Stays role r → r ≡ Ok effect → Stays role (Ok effect)
stays_in role r effect stays is = subst (Stays role) is stays

stays_read : (c : Connection) (bytes : List ℕ) (p : ℕ × Effect) → read_step c bytes ≡ Ok (Complete p) → Stays c.role (Ok p.1)
unfolding on_frame
stays_read c bytes p read =
    let took = TookFrame_from_read c bytes p read in
    stays_in c.role _ p.1 (stays_check c.role _ _ (stays_opcode c took.header.opcode took.header.is_final took.payload)) took.does

pub stays_through : (run : Run) (c : Connection) (i : List ℕ) (c' : Connection) (i' : List ℕ) → Runs c i run c' i' → c'.role ≡ c.role
stays_through [] c i c' i' runs = ap (λ x. x.role) runs.0
stays_through (p ∷ run) c i c' i' runs = stays_through run p.1.next (drop p.0 i) c' i' runs.1 ∙ (stays_read c i p runs.0).0

-- ---- replies

pub unmasked : (role : Role) (mask : Option (List ℕ)) → role ≡ Server → IsMaskOf role mask → mask ≡ None
unmasked role None is masks = refl
unmasked role (Some key) is masks = absurd (true≢false (masks.0 ∙ ap (λ r. not (is_server r)) is))

-- nothing, or one control frame
abbrev Replied : List ℕ → Type 0
Replied bytes = (bytes ≡ []) ⊎ ((control : Control) × (payload : List ℕ) × (bytes ≡ control_frame control payload))

reply_is : (role : Role) (reply : Option Outgoing) (old new : List ℕ) → role ≡ Server → IsControlReply reply → Sends role reply old new → old ≡ []
    → Replied new
reply_is role None old new server control sends none = inl (sends ∙ none)
reply_is role (Some out) old new server control sends none = inr (
  control.0,
  out.payload,
  sends.2
      ∙ ap (λ xs. xs ++ encode_frame (whole_header out.opcode sends.0) out.payload) none
      ∙ ap (λ mask. encode_frame (whole_header out.opcode mask) out.payload) (unmasked role sends.0 server sends.1)
      ∙ ap (λ code. encode_frame (whole_header code None) out.payload) control.1,
)

-- only the last frame of a run that gives a message is answered
replied : (run : Run) (c : Connection) (i : List ℕ) (c' : Connection) (i' : List ℕ) (message : Content) (old new : List ℕ) → Runs c i run c' i'
    → EndsWith run message → c.role ≡ Server → old ≡ [] → Replies run old new → Replied new
replied [] c i c' i' message old new runs ends server none replies = absurd ends
replied (p ∷ []) c i c' i' message old new runs ends server none replies =
    let stays = stays_read c i p runs.0 in
    subst Replied (sym replies.2) (reply_is p.1.next.role p.1.reply old replies.0 (stays.0 ∙ server) stays.1 replies.1 none)
replied (p ∷ q ∷ run) c i c' i' message old new runs ends server none replies =
    let stays = stays_read c i p runs.0 in
    let kept : replies.0 ≡ old =
    subst (λ reply. Sends p.1.next.role reply old replies.0) (quiet-frame c i p runs.0 ends.0) replies.1 in
    replied (q ∷ run) p.1.next (drop p.0 i) c' i' message replies.0 new runs.1 ends.1 (stays.0 ∙ server) (kept ∙ none) replies.2

pub nil_front : (front back : List ℕ) → front ++ back ≡ [] → front ≡ []
nil_front [] back is = refl
nil_front (x ∷ front) back is = cc is

pub nil_back : (front back : List ℕ) → front ++ back ≡ [] → back ≡ []
nil_back [] back is = is
nil_back (x ∷ front) back is = cc is

-- what waits behind a read is a reply, or the end of one
pub reply_waits : (run : Run) (c : Connection) (i : List ℕ) (c' : Connection) (i' : List ℕ) (message : Content) (old front back : List ℕ)
    → Runs c i run c' i' → EndsWith run message → c.role ≡ Server → old ≡ [] → Replies run old (front ++ back)
    → (back ≡ []) ⊎ EndsControl back
reply_waits run c i c' i' message old front back runs ends server none replies =
    ⊎_elim
    (λ nothing. inl (nil_back front back nothing))
    (λ frame. inr (record { control = frame.0; payload = frame.1; front = front; are = sym frame.2 }))
    (replied run c i c' i' message old (front ++ back) runs ends server none replies)

-- a run without a message is answered by nothing
pub nothing_waits : (run : Run) (c : Connection) (i : List ℕ) (c' : Connection) (i' : List ℕ) (old front back : List ℕ)
    → Runs c i run c' i' → Quiet run → old ≡ [] → Replies run old (front ++ back) → back ≡ []
nothing_waits run c i c' i' old front back runs quiet none replies =
    nil_back front back (replies-none run old (front ++ back) (quiet-run c c' i i' run runs quiet) replies ∙ none)
