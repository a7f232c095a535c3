pub mod SiteView
