pub mod MovedTokens
