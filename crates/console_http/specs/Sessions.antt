-- What a session at a desk tells of calls, askings and steps of a WebSocket.
pub use Rattle.console_socket.specs.Sessions.{AskingAt, CallsAt, SteppingAt}
