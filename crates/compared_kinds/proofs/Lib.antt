pub mod WrongKinds
