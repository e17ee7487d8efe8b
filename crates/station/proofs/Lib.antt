pub mod Few
pub mod Call
pub mod HexCalls
