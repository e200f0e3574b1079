-- How a URI is cut into its parts.
pub mod UriCharLemmas
pub mod UriHostLemmas
pub mod UriLemmas
pub mod UriPartLemmas
pub mod UriPortLemmas
pub mod UriSchemeLemmas
pub mod UriSipLemmas
