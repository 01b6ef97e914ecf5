pub mod UrlNames
