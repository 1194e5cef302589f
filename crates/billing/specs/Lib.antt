-- What the contracts of `billing` cite, and what holds of every session: the rules by which a number has its status, the clerk who
-- goes by them with the whole history, the window, a token received, and sessions.
pub mod Status
pub mod Clerk
pub mod Window
pub mod Receive
pub mod Session
